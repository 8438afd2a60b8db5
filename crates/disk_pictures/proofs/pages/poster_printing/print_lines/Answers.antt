-- An entry's line was printed after the others.
use Rattle.std.proofs.Common.{length, refl, sym}
use Rattle.disk_pictures.proofs.Printing.{item-more, no-items}
use Rattle.disk_pictures.specs.Drawings.{file_in}
use Rattle.disk_pictures.specs.Html.{html_of}
use Rattle.disk_pictures.specs.Petscii.{petscii_of}
use Rattle.disk_pictures.specs.Posters.{poster_line}
use Rattle.disk_pictures.proofs.pages.poster_printing.print_lines.Goals as goal

pub loop-number-init : goal.loop-number-init
loop-number-init g c = no-items _ _ _ refl

pub loop-number-preserved : goal.loop-number-preserved
loop-number-preserved g c =
    item-more file_in (poster_line html_of petscii_of (length c.args.files.now)) _ _ _ c.args.files.now c.loop-number.number c.index-files-number.result
    c.loop-number-test.true
    (sym c.index-files-number.is) c.loop-number.invariant c.in_ok-print_text.ensures.ok
