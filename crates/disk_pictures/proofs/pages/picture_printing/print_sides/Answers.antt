-- A side sector was printed after the others.
use Rattle.std.proofs.Common.{refl, sym}
use Rattle.disk_pictures.proofs.Printing.{no-items, plain-more}
use Rattle.disk_pictures.specs.Drawings.{file_in}
use Rattle.disk_pictures.specs.Held.{drawn_in}
use Rattle.disk_pictures.specs.Html.{html_of}
use Rattle.disk_pictures.specs.Pictures.{own_side}
use Rattle.disk_pictures.proofs.pages.picture_printing.print_sides.Goals as goal

pub loop-index-init : goal.loop-index-init
loop-index-init g c = no-items _ _ _ refl

pub loop-index-preserved : goal.loop-index-preserved
loop-index-preserved g c =
    plain-more (own_side html_of (drawn_in c.args.drawing.now) c.args.number (file_in c.args.file.now)) _ _ _ _
    c.loop-index.index
    c.index-sides-index.result c.loop-index-test.true (sym c.index-sides-index.is)
    c.loop-index.invariant c.in_ok-print_side.ensures.ok
