-- The count, the style, and the count again.
use Rattle.std.proofs.Common.{refl}
use Rattle.std.proofs.Output.{has_written_of_eq}
use Rattle.disk_pictures.specs.Pictures.{page_head}
use Rattle.disk_pictures.specs.Sheets.{sheet_head, sheet_style}
use Rattle.disk_pictures.proofs.sheets.sheet_printing.HeadDisplay.fmt.Goals as goal

pub returns-clause-writes : goal.returns-clause-writes
unfolding page_head sheet_head sheet_style
returns-clause-writes g c = λ plain done. has_written_of_eq _ _ _ _ _
    refl (c.write.ensures.writes plain done)
