-- An entry's group was printed after the others.
use Rattle.std.proofs.Common.{refl, sym}
use Rattle.disk_pictures.proofs.Printing.{item-more, no-items}
use Rattle.disk_pictures.specs.Drawings.{file_in}
use Rattle.disk_pictures.specs.Held.{drawn_in}
use Rattle.disk_pictures.specs.Html.{html_of}
use Rattle.disk_pictures.specs.Pictures.{file_group}
use Rattle.disk_pictures.proofs.pages.picture_printing.print_files.Goals as goal

pub loop-number-init : goal.loop-number-init
loop-number-init g c = no-items _ _ _ refl

pub loop-number-preserved : goal.loop-number-preserved
loop-number-preserved g c =
    item-more file_in (file_group html_of (drawn_in c.args.drawing.now)) _ _ _ c.as_slice-files.result.now
    c.loop-number.number c.index-files-number.result
    c.loop-number-test.true (sym c.index-files-number.is) c.loop-number.invariant c.in_ok-print_file.ensures.ok
