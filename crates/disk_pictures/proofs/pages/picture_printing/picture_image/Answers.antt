-- Of a sound image the page of its layout was printed.
use Rattle.disk_pictures.proofs.SoundPrinted.{as-drawn, of-layout}
use Rattle.disk_pictures.specs.Held.{drawn_in}
use Rattle.disk_pictures.specs.Pictures.{picture_page}
use Rattle.disk_pictures.proofs.pages.picture_printing.picture_image.Goals as goal

pub returns-clause-ok : goal.returns-clause-ok
returns-clause-ok g c = (
  drawn_in c.in_ok-drawing.drawing,
  as-drawn g.W.Write.contents picture_page c.args.image.now c.in_ok-drawing.drawing
      c.in_ok-drawing.verdict c.in_ok-drawing.ensures.ok c.args.out.now c.print_page.new.out c.in_ok-print_page.ensures.ok,
)

pub returns-clause-sound : goal.returns-clause-sound
returns-clause-sound g c = of-layout g.W.Write.contents picture_page c.args.image.now c.in_ok-drawing.drawing
    c.in_ok-drawing.verdict c.in_ok-drawing.ensures.ok c.args.out.now c.print_page.new.out c.in_ok-print_page.ensures.ok
