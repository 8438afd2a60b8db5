-- Side sector by side sector.
use Rattle.std.proofs.Common.{arith, refl, sym, subst, ◌≡◌, ◌∙◌, ◌+◌, ℕ}
use Rattle.d64_image.proofs.Moments.{at_end, no_change}
use Rattle.d64_image.specs.Images.{Image}
use Rattle.rel_records.proofs.lemmas.Told.{not-done, tells-failed}
use Rattle.rel_records.proofs.lemmas.steps.Sided.{AreWrittenBelow, below-all, below-more, below-none, get-there}
use Rattle.rel_records.proofs.lemmas.steps.Sided.{side_change, sided-none, sides_then}
use Rattle.d64_image.specs.History.{Changes}
use Rattle.rel_records.specs.growth.Steps.{IsSided}
use Rattle.rel_records.proofs.growth.steps.write_older.Goals as goal

pub loop-number-init : goal.loop-number-init
loop-number-init g c =
    let S = g.D.Sectors.history in
    record {
      written = below-none (S.image c.args.disk.now) c.args.blocks.now c.args.sides.now c.args.size;
      changes = no_change S c.args.disk.now _
          (sided-none (S.image c.args.disk.now) c.args.blocks.now c.args.sides.now c.args.size);
      reads = omega arith;
      failures = refl;
    }

pub returns-in_err-write_side : goal.returns-in_err-write_side
returns-in_err-write_side g c =
    let S = g.D.Sectors.history in
    let old = c.loop-number.invariant in
    record {
      ok = not-done c.from_residual.result _ c.from_residual.ensures.1 _;
      moments =
          sides_then S c.args.disk.now c.loop-number.disk c.write_side.new.disk c.args.blocks.now c.args.sides.now
          c.args.size c.loop-number.number 1 c.args.below
          (omega (arith, c.loop-number-test.true)) old.changes (at_end S _ _ _ old.changes.held)
          (side_change S c.args.blocks.now c.args.sides.now c.args.size c.loop-number.disk c.write_side.new.disk
          c.loop-number.number (omega (arith, c.loop-number-test.true, c.requires.below))
          c.in_err-write_side.ensures.moments);
      reads = omega (arith, c.in_err-write_side.ensures.reads, c.loop-number.invariant.reads);
      failures = tells-failed g.D.Sectors.history _ _ _ c.loop-number.invariant.failures c.from_residual.result _
          c.from_residual.ensures.1 c.in_err-write_side.ensures.failures;
    }

pub loop-number-preserved : goal.loop-number-preserved
loop-number-preserved g c =
    let S = g.D.Sectors.history in
    let old = c.loop-number.invariant in
    let n = c.loop-number.number in
    let (p, at) = get-there c.args.sides.now n (omega (arith, c.loop-number-test.true, c.requires.below)) in
    let P : Image
    → Type 0 = λ i. AreWrittenBelow (S.image c.args.disk.now) i c.args.blocks.now c.args.sides.now c.args.size
    (n + 1) in
    record {
      written = subst P (sym (c.in_ok-write_side.ensures.ok p at))
          (below-more (S.image c.args.disk.now) (S.image c.loop-number.disk) c.args.blocks.now c.args.sides.now
          c.args.size n p (S.whole c.loop-number.disk).size c.requires.once at old.written);
      changes = sides_then S c.args.disk.now c.loop-number.disk c.write_side.new.disk c.args.blocks.now c.args.sides.now
          c.args.size n 1 (n + 1)
          (omega arith) old.changes (at_end S _ _ _ old.changes.held)
          (side_change S c.args.blocks.now c.args.sides.now c.args.size c.loop-number.disk c.write_side.new.disk n
          (omega (arith, c.loop-number-test.true, c.requires.below)) c.in_ok-write_side.ensures.moments);
      reads = omega (arith, c.in_ok-write_side.ensures.reads, old.reads);
      failures = c.in_ok-write_side.ensures.failures ∙ old.failures;
    }

pub returns : goal.returns
returns g c =
    let S = g.D.Sectors.history in
    let n : c.loop-number.number ≡ c.args.below = omega (arith, c.loop-number-test.false, c.loop-number.auto) in
    record {
      ok = λ from.
          let P : ℕ
          → Type 0 = AreWrittenBelow (S.image c.args.disk.now) (S.image c.loop-number.disk) c.args.blocks.now
          c.args.sides.now c.args.size in
          below-all (S.image c.args.disk.now) (S.image c.loop-number.disk) c.args.blocks.now c.args.sides.now
          c.args.size c.args.below c.requires.once (subst P n c.loop-number.invariant.written) from;
      moments = subst
          (λ (k : ℕ). Changes S c.args.disk.now c.loop-number.disk k
          (IsSided (S.image c.args.disk.now) c.args.blocks.now c.args.sides.now c.args.size)) n
          c.loop-number.invariant.changes;
      reads = omega (arith, c.loop-number.invariant.reads);
      failures = c.loop-number.invariant.failures;
    }
