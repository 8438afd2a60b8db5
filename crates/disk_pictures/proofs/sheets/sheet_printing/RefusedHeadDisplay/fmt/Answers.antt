-- The path.
use Rattle.std.proofs.Common.{refl}
use Rattle.std.proofs.Output.{has_written_of_eq}
use Rattle.disk_pictures.specs.Sheets.{refused_head}
use Rattle.disk_pictures.proofs.sheets.sheet_printing.RefusedHeadDisplay.fmt.Goals as goal

pub returns-clause-writes : goal.returns-clause-writes
unfolding refused_head
returns-clause-writes g c = λ plain done. has_written_of_eq _ _ _ _ _
    (rw (c.as_bytes.ensures.value) refl) (c.write.ensures.writes plain done)
