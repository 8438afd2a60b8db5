-- One sector's line more.
use Rattle.std.proofs.Common.{arith}
use Rattle.std.specs.Prelude.{option_map}
use Rattle.disk_pictures.proofs.Past.{past-all, past-more}
use Rattle.disk_pictures.specs.Held.{drawn_in}
use Rattle.disk_pictures.specs.PastErrors.{nth_past, past_sharing_line}
use Rattle.disk_pictures.proofs.views.past_errors.print_sharings.Goals as goal

pub loop-past-preserved : goal.loop-past-preserved
loop-past-preserved g c =
    let image = c.args.image.now in
    let drawn = option_map (λ drawn. drawn_in drawn.now) c.args.drawing in
    past-more (λ n. past_sharing_line n (nth_past image drawn n 0) (nth_past image drawn n 1)) _ _ _ c.loop-past.past
    c.loop-past.invariant c.in_ok-print_sharing.ensures.ok

pub returns-clause-ok : goal.returns-clause-ok
returns-clause-ok g c =
    let image = c.args.image.now in
    let drawn = option_map (λ drawn. drawn_in drawn.now) c.args.drawing in
    past-all (λ n. past_sharing_line n (nth_past image drawn n 0) (nth_past image drawn n 1)) _ _ c.loop-past.past
    (omega (arith, c.loop-past-test.false, c.loop-past.auto.past-end)) c.loop-past.invariant
