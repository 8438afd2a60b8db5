-- The bytes, the owner and the link are the text.
use Rattle.std.proofs.lemmas.Result.{on_ok_weaker}
use Rattle.disk_pictures.proofs.lemmas.views.Viewed.{sector-written}
use Rattle.disk_pictures.specs.Drawings.{owner_of}
use Rattle.disk_pictures.specs.Held.{drawn_in}
use Rattle.disk_pictures.specs.Views.{owner_text}
use Rattle.disk_pictures.proofs.views.sector_printing.print_owned.Goals as goal

pub returns-clause-ok : goal.returns-clause-ok
returns-clause-ok g c =
    on_ok_weaker c.print_link.result
    (sector-written _ _ _ _ c.args.bytes.now
    (owner_text c.args.drawing.now.map (drawn_in c.args.drawing.now) c.args.place (owner_of (drawn_in c.args.drawing.now) c.args.place))
    c.in_ok-print_bytes.ensures.ok c.in_ok-print_owner.ensures.ok) c.print_link.ensures.ok
