-- The white lines in their group, one after another.
use Rattle.std.proofs.Common.{◌+◌, arith}
use Rattle.std.specs.Prelude.{codes}
use Rattle.std.proofs.lemmas.Result.{on_ok_weaker}
use Rattle.disk_pictures.proofs.Printing.{begun, begun-more, ended}
use Rattle.disk_pictures.specs.Held.{drawn_in}
use Rattle.disk_pictures.specs.Pictures.{open_group, own_ring}
use Rattle.disk_pictures.proofs.pages.white_lines.print_open.Goals as goal

pub loop-below-init : goal.loop-below-init
loop-below-init g c = begun _ _ _ _ c.in_ok-print_text.ensures.ok

pub loop-below-preserved : goal.loop-below-preserved
loop-below-preserved g c =
    let d = c.args.drawing.now in
    begun-more _ _ _ (codes "<g class=\"open\">\n") c.loop-below.below (λ b. own_ring d.map (drawn_in d) (b + 1))
    c.loop-below.invariant c.in_ok-print_ring.ensures.ok

pub returns-clause-ok : goal.returns-clause-ok
unfolding open_group
returns-clause-ok g c =
    let d = c.args.drawing.now in
    on_ok_weaker c.print_text-2.result
    (λ end. ended _ _ _ (codes "<g class=\"open\">\n") _ c.loop-below.below 35
    (λ b. own_ring d.map (drawn_in d) (b + 1))
    (omega (arith, c.loop-below-test.false, c.loop-below.auto.below-end)) c.loop-below.invariant end)
    c.print_text-2.ensures.ok
