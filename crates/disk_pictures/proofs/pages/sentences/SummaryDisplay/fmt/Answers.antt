-- The sentence and the two numbers.
use Rattle.std.proofs.Common.{◌≡◌, ◌∙◌, ap, length, map, sym}
use Rattle.std.proofs.lemmas.List.{length-map}
use Rattle.std.proofs.Output.{has_written_of_eq}
use Rattle.disk_pictures.proofs.Named.{summary-written}
use Rattle.disk_pictures.specs.Drawings.{file_in}
use Rattle.disk_pictures.specs.Held.{drawn_in}
use Rattle.disk_pictures.proofs.pages.sentences.SummaryDisplay.fmt.Goals as goal

pub returns-clause-writes : goal.returns-clause-writes
returns-clause-writes g c =
    let d = c.args.self.now.drawing.now in
    let many : length c.as_slice.result.now ≡ length (map file_in d.files.items) =
    ap length c.as_slice.ensures.value ∙ sym (length-map d.files.items file_in) in
    λ plain done. has_written_of_eq _ _ _ _ _
    (summary-written c.args.self.now.verdict d.map (drawn_in d) _ _ many (rw c.new.ensures at c.blocks_free-free.ensures))
    (c.write.ensures.writes plain done)
