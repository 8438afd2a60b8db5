-- The end was printed, and nothing else.
use Rattle.std.proofs.KnownBytes.{Appends-kept}
use Rattle.d64_image.proofs.Told.{at-ok}
use Rattle.disk_pictures.specs.Sheets.{sheet_end}
use Rattle.disk_pictures.proofs.sheets.sheet_printing.sheet_finish.Goals as goal

pub returns-clause-ok : goal.returns-clause-ok
unfolding sheet_end
returns-clause-ok g c =
    at-ok c.flush.result (Appends-kept _ _ _ _ c.in_ok-print_text.ensures.ok c.flush.ensures.kept)
