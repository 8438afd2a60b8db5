-- One entry more.
use Rattle.std.proofs.Common.{◌≡◌, ◌+◌, ℕ, length, ap, refl, ◌∙◌, arith}
use Rattle.std.proofs.lemmas.List.{length_push}
use Rattle.disk_reports.proofs.Followed.{followed-all, followed-more, followed-none, pushed}
use Rattle.disk_reports.proofs.links.follow_entries.Goals as goal

pub loop-slot-init : goal.loop-slot-init
loop-slot-init c = record {
  followed = followed-none _ _ c.new-trails.ensures.items;
  count = ap length c.new-trails.ensures.items;
}

pub loop-slot-preserved : goal.loop-slot-preserved
loop-slot-preserved c =
    let old = c.loop-slot.invariant in
    let more = pushed _ _ _ _ _ c.if-is_err.false c.is_err.ensures.negation c.push.ensures.items in
    record {
      followed = followed-more _ _ _ _ _ _ _ c.loop-slot-test.true c.slot-item.is old.followed c.follow-trail.ensures.slot
          c.follow-trail.ensures.trail more;
      count = ap length more ∙ length_push c.loop-slot.trails.items c.follow-trail.result
          ∙ ap (λ (n : ℕ). n + 1) old.count;
    }

pub returns-then-is_err : goal.returns-then-is_err
returns-then-is_err c = record {
  ok = tt;
  few = tt;
  err = refl;
}

pub returns : goal.returns
returns c =
    let end : c.loop-slot.slot-index ≡ length c.args.slots.now =
    omega (arith, c.loop-slot-test.false, c.loop-slot.auto.slot-index-end) in
    record {
      ok = followed-all _ _ _ _ end c.loop-slot.invariant.followed;
      few = c.loop-slot.invariant.count ∙ end;
      err = tt;
    }
