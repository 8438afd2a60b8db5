-- The bytes, the owner and the link are the text.
use Rattle.std.proofs.lemmas.Result.{on_ok_weaker}
use Rattle.disk_pictures.proofs.lemmas.views.Viewed.{sector-written}
use Rattle.disk_pictures.specs.Views.{unknown_owner}
use Rattle.disk_pictures.proofs.views.sector_printing.print_unowned.Goals as goal

pub returns-clause-ok : goal.returns-clause-ok
returns-clause-ok g c =
    on_ok_weaker c.print_link.result
    (sector-written _ _ _ _ c.args.bytes.now
    (unknown_owner c.args.fault)
    c.in_ok-print_bytes.ensures.ok c.in_ok-print_text.ensures.ok) c.print_link.ensures.ok
