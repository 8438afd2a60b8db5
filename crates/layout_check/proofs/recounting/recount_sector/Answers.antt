-- Slot by slot: the one that was made right, and those before and behind it.
use Rattle.std.proofs.Common.{ap, arith, refl, rules, ◌∙◌}
use Rattle.d64_image.specs.Images.{Sector}
use Rattle.disk_layout.specs.Directory.{slot_in}
use Rattle.layout_check.proofs.lemmas.repairing.RightCounts.{counted-none}
use Rattle.layout_check.proofs.lemmas.repairing.RightSlots.{gets-next, other-slot}
use Rattle.layout_check.proofs.recounting.recount_sector.Goals as goal

pub loop-number-init : goal.loop-number-init
loop-number-init c = record {
  few = omega arith;
  later = λ k above low. refl;
  counted = λ img here numbers same. record {
    counts = counted-none c.args.bytes.now (search rules);
    right = λ k low. absurd (omega (arith, low));
    kept = λ right. refl;
  };
}

pub loop-number-preserved : goal.loop-number-preserved
loop-number-preserved c =
    let old = c.loop-number.invariant in
    let now = c.recount_slot.ensures in
    let n = c.loop-number.number in
    let eight = c.loop-number-test.true in
    record {
      few = omega (arith, eight);
      later = λ k above low. other-slot c.args.place c.loop-number.bytes c.recount_slot.new.bytes n k now.rest low
          (λ e. omega (arith, e, above)) ∙ old.later k (omega (arith, above)) low;
      counted = λ img here numbers same. gets-next img c.args.place c.args.bytes.now c.loop-number.bytes
          c.recount_slot.new.bytes n eight now.rest (old.counted img here numbers same)
          (now.counted img here numbers (old.later n (omega arith) eight
          ∙ ap (λ (bytes : Sector). slot_in c.args.place bytes n) same));
    }

pub returns : goal.returns
returns c img here numbers same =
    let counted = c.loop-number.invariant.counted img here numbers same in
    record {
      counts = counted.counts;
      right = λ n low. counted.right n (omega (arith, low, c.loop-number-test.false));
      kept = λ right. counted.kept (λ k below. right k (omega (arith, below, c.loop-number.invariant.few)));
    }
