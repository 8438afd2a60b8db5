-- The marks, sector by sector.
use Rattle.std.proofs.lemmas.Result.{on_ok_weaker}
use Rattle.disk_pictures.proofs.InOrder.{differing, place-more, places-ended}
use Rattle.disk_pictures.proofs.Printing.{begun-flat}
use Rattle.disk_pictures.specs.ComparedPages.{mark_arc, marks_head, marks_text}
use Rattle.disk_pictures.specs.Comparisons.{each_difference}
use Rattle.disk_pictures.proofs.comparison.differences.print_marks.Goals as goal

pub loop-index-init : goal.loop-index-init
unfolding marks_head
loop-index-init g c =
    begun-flat (differing mark_arc c.args.before.now.sectors.now c.args.after.now.sectors.now) _ _ _
    c.in_ok-print_text.ensures.ok

pub loop-index-preserved : goal.loop-index-preserved
loop-index-preserved g c =
    place-more (differing mark_arc c.args.before.now.sectors.now c.args.after.now.sectors.now) _ _ _ marks_head
    c.loop-index.index c.nth.result c.nth.ensures c.loop-index.invariant c.in_ok-print_mark.ensures.ok

pub returns-clause-ok : goal.returns-clause-ok
unfolding marks_text each_difference
returns-clause-ok g c =
    on_ok_weaker c.print_text-2.result
    (λ end. places-ended (differing mark_arc c.args.before.now.sectors.now c.args.after.now.sectors.now) _ _ _ marks_head _
    c.loop-index.index c.loop-index-test.false c.loop-index.invariant end) c.print_text-2.ensures.ok
