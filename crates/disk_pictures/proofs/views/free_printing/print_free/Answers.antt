-- The lines and their sum are the text.
use Rattle.std.proofs.Common.{ap, ◌∙◌}
use Rattle.d64_image.proofs.Told.{at-ok}
use Rattle.disk_layout.specs.View.{blocks_free}
use Rattle.disk_pictures.proofs.lemmas.views.Viewed.{free-written}
use Rattle.disk_pictures.proofs.views.free_printing.print_free.Goals as goal

pub returns-clause-ok : goal.returns-clause-ok
returns-clause-ok g c =
    at-ok c.flush.result (free-written _ _ _ _ c.args.map.now c.blocks_free.result
    (c.blocks_free.ensures ∙ ap blocks_free c.new.ensures) c.in_ok-print_tracks.ensures.ok c.in_ok-print_text.ensures.ok
    c.flush.ensures.kept)
