-- The row of one entry more was printed.
use Rattle.std.proofs.Common.{refl, sym}
use Rattle.disk_pictures.proofs.Printing.{item-more, no-items}
use Rattle.disk_pictures.specs.ComparedOutcomes.{disk_in}
use Rattle.disk_pictures.specs.ComparedPages.{former_row}
use Rattle.disk_pictures.specs.Drawings.{file_in}
use Rattle.disk_pictures.specs.Html.{html_of}
use Rattle.disk_pictures.specs.Petscii.{petscii_of}
use Rattle.disk_pictures.proofs.comparison.changes.print_formers.Goals as goal

pub loop-number-init : goal.loop-number-init
loop-number-init g c = no-items _ _ _ refl

pub loop-number-preserved : goal.loop-number-preserved
loop-number-preserved g c =
    item-more file_in (former_row html_of petscii_of (disk_in c.args.before.now) (disk_in c.args.after.now)) _ _ _
    c.as_slice-files.result.now c.loop-number.number c.index-files-number.result c.loop-number-test.true
    (sym c.index-files-number.is) c.loop-number.invariant c.in_ok-print_former.ensures.ok
