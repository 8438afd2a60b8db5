-- One track more, and all of them.
use Rattle.std.proofs.Common.{◌+◌, ap, arith, subst, ◌∙◌}
use Rattle.std.specs.Io.KnownBytes.{Appends}
use Rattle.disk_layout.specs.Map.{map_count}
use Rattle.d64_image.specs.Images.{Sector}
use Rattle.disk_pictures.proofs.Printing.{all-below, below-more, none-below}
use Rattle.disk_pictures.specs.Views.{free_line}
use Rattle.disk_pictures.proofs.views.free_printing.print_tracks.Goals as goal

pub loop-below-init : goal.loop-below-init
loop-below-init g c = none-below _ _

pub loop-below-preserved : goal.loop-below-preserved
loop-below-preserved g c =
    let map = c.args.map.now in
    let count = c.free_on.ensures ∙ ap (λ (bytes : Sector). map_count bytes (c.loop-below.below + 1)) c.new-view.ensures in
    below-more _ _ _ c.loop-below.below (λ b. free_line (b + 1) (map_count map (b + 1))) c.loop-below.invariant
    (subst (λ n. Appends (g.W.Write.contents c.loop-below.out) (g.W.Write.contents c.print_text.new.out)
    (free_line (c.loop-below.below + 1) n)) count c.in_ok-print_text.ensures.ok)

pub returns-clause-ok : goal.returns-clause-ok
returns-clause-ok g c =
    all-below _ _ c.loop-below.below 35 (λ b. free_line (b + 1) (map_count c.args.map.now (b + 1)))
    (omega (arith, c.loop-below-test.false, c.loop-below.auto.below-end)) c.loop-below.invariant
