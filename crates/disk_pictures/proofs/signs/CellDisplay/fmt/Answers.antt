-- A blank and two characters of ASCII.
use Rattle.std.proofs.Output.{has_written_of_eq}
use Rattle.disk_pictures.proofs.lemmas.views.Marks.{cell-written}
use Rattle.disk_pictures.specs.Held.{drawn_in}
use Rattle.disk_pictures.proofs.signs.CellDisplay.fmt.Goals as goal

pub returns-clause-writes : goal.returns-clause-writes
returns-clause-writes g c = λ plain done. has_written_of_eq _ _ _ _ _
    (cell-written c.args.self.now.found c.args.self.now.drawing.now.map (drawn_in c.args.self.now.drawing.now)
    c.args.self.now.place _ _ c.sign-first.ensures c.second_sign-second.ensures)
    (c.write.ensures.writes plain done)
