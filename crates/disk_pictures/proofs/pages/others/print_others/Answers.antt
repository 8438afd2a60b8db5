-- The sectors of nobody in their group, one after another.
use Rattle.std.specs.Prelude.{codes}
use Rattle.std.proofs.lemmas.Result.{on_ok_weaker}
use Rattle.disk_pictures.proofs.InOrder.{place-more, places-ended}
use Rattle.disk_pictures.proofs.Printing.{begun-flat}
use Rattle.disk_pictures.specs.Held.{drawn_in}
use Rattle.disk_pictures.specs.Pictures.{other_arc, others_group}
use Rattle.disk_pictures.proofs.pages.others.print_others.Goals as goal

pub loop-index-init : goal.loop-index-init
loop-index-init g c =
    let d = c.args.drawing.now in
    begun-flat (other_arc d.map (drawn_in d)) _ _ _ c.in_ok-print_text.ensures.ok

pub loop-index-preserved : goal.loop-index-preserved
loop-index-preserved g c =
    let d = c.args.drawing.now in
    place-more (other_arc d.map (drawn_in d)) _ _ _ (codes "<g id=\"r\">\n") c.loop-index.index c.nth.result
    c.nth.ensures c.loop-index.invariant c.in_ok-print_other.ensures.ok

pub returns-clause-ok : goal.returns-clause-ok
unfolding others_group
returns-clause-ok g c =
    let d = c.args.drawing.now in
    on_ok_weaker c.print_text-2.result
    (λ end. places-ended (other_arc d.map (drawn_in d)) _ _ _ (codes "<g id=\"r\">\n") _ c.loop-index.index
    c.loop-index-test.false c.loop-index.invariant end) c.print_text-2.ensures.ok
