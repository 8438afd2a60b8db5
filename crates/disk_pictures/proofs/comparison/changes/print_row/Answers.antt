-- In what it differs, the records, and the end.
use Rattle.std.proofs.lemmas.Result.{on_ok_weaker}
use Rattle.disk_pictures.proofs.lemmas.comparison.ChangedRows.{row-printed}
use Rattle.disk_pictures.specs.ComparedPages.{difference_row}
use Rattle.disk_pictures.specs.Drawings.{file_in}
use Rattle.disk_pictures.proofs.comparison.changes.print_row.Goals as goal

pub returns-clause-ok : goal.returns-clause-ok
unfolding difference_row
returns-clause-ok g c = on_ok_weaker c.print_text-2.result
    (λ end. row-printed _ _ _ _ c.args.number (file_in c.args.file.now.file.now) _ _ _ _ _ _ _
    c.parts_of-parts.ensures.entry c.parts_of-parts.ensures.sectors c.parts_of-parts.ensures.bytes
    c.in_ok-print_text.ensures.ok c.in_ok-print_records.ensures.ok end) c.print_text-2.ensures.ok
