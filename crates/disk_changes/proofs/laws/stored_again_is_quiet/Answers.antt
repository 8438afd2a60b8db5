-- A text that was stored, stored once more.
use Rattle.std.proofs.Common.{subst}
use Rattle.std.specs.Io.KnownBytes.{Appends}
use Rattle.disk_changes.proofs.lemmas.lines.FileRecords.{file-low}
use Rattle.disk_changes.proofs.lemmas.lines.Returned.{prints-none, writes-none}
use Rattle.disk_changes.proofs.laws.stored_again_is_quiet.Goals as goal

pub returns-clause-unwritten : goal.returns-clause-unwritten
returns-clause-unwritten g c = λ image again name text a b c' d held one two.
    let S = g.D.Sectors.history in
    writes-none S image again name text a b c' d held one two
    (file-low (S.image a) one.run.layout one.run.number one.run.file name (S.whole a) one.run.usable.clean.layout
    one.run.first)

pub returns-clause-unprinted : goal.returns-clause-unprinted
returns-clause-unprinted g c = λ image again name text a b c' d before out held one two.
    let S = g.D.Sectors.history in
    subst (Appends (g.W.Write.contents before) (g.W.Write.contents out))
    (prints-none S image again name text a b c' d held one two.disk
    (file-low (S.image a) one.run.layout one.run.number one.run.file name (S.whole a) one.run.usable.clean.layout
    one.run.first))
    two.printed
