-- The last side sector, and then the older ones.
use Rattle.std.proofs.Common.{arith, refl, sym, subst, length, ℕ, ◌+◌, ◌-◌, ◌≤◌, Bool, true, false}
use Rattle.std.specs.Prelude.{if◌then◌else◌}
use Rattle.std.proofs.lemmas.Result.{on_ok_weaker}
use Rattle.d64_image.proofs.Moments.{changes_weaker}
use Rattle.rel_records.proofs.lemmas.steps.Sided.{last_change, order_then, sided-last}
use Rattle.d64_image.specs.History.{Changes}
use Rattle.rel_records.specs.growth.Steps.{AreSidedFrom, IsSidedInOrder}
use Rattle.rel_records.proofs.lemmas.Told.{not-done, tells-after, tells-failed}
use Rattle.rel_records.proofs.growth.steps.write_sides.Goals as goal

pub returns-then-new : goal.returns-then-new
returns-then-new g c =
    let S = g.D.Sectors.history in
    let P : Bool
    → Type 0 = λ b. AreSidedFrom (if b then 0 else (length c.args.sides.now - 1)) (S.image c.write_older.new.disk)
    c.args.blocks.now c.args.sides.now c.args.size in
    record {
      ok = on_ok_weaker c.write_older.result
          (λ h. subst P (sym c.if-new.true)
          (h (sided-last (S.image c.args.disk.now) (S.image c.write_side.new.disk) c.args.blocks.now c.args.sides.now
          c.args.size (length c.args.sides.now - 1) (omega (arith, c.requires.some)) (S.whole c.args.disk.now).size
          c.in_ok-write_side.ensures.ok))) c.write_older.ensures.ok;
      moments =
          let P : Bool
          → Type 0 = λ b. 1 + (length c.args.sides.now - 1) ≤ (if b then (length c.args.sides.now) else 1) in
          let le = subst P (sym c.if-new.true) (omega (arith, c.requires.some)) in
          order_then S c.args.blocks.now c.args.sides.now c.args.size c.args.disk.now c.write_side.new.disk
          c.write_older.new.disk (length c.args.sides.now - 1) _ le c.requires.once
          (last_change S c.args.blocks.now c.args.sides.now c.args.size c.args.disk.now c.write_side.new.disk
          (length c.args.sides.now - 1) (omega (arith, c.requires.some)) c.in_ok-write_side.ensures.moments)
          (sided-last (S.image c.args.disk.now) (S.image c.write_side.new.disk) c.args.blocks.now c.args.sides.now
          c.args.size (length c.args.sides.now - 1) (omega (arith, c.requires.some)) (S.whole c.args.disk.now).size
          c.in_ok-write_side.ensures.ok)
          c.write_older.ensures.moments;
      reads = omega (arith, c.write_older.ensures.reads, c.in_ok-write_side.ensures.reads);
      failures = tells-after g.D.Sectors.history _ _ _ c.in_ok-write_side.ensures.failures c.write_older.result
          c.write_older.ensures.failures;
    }

pub returns-else-new : goal.returns-else-new
returns-else-new g c =
    let S = g.D.Sectors.history in
    let P : Bool
    → Type 0 = λ b. AreSidedFrom (if b then 0 else (length c.args.sides.now - 1)) (S.image c.write_side.new.disk)
    c.args.blocks.now c.args.sides.now c.args.size in
    record {
      ok = subst P (sym c.if-new.false)
          (sided-last (S.image c.args.disk.now) (S.image c.write_side.new.disk) c.args.blocks.now c.args.sides.now
          c.args.size (length c.args.sides.now - 1) (omega (arith, c.requires.some)) (S.whole c.args.disk.now).size
          c.in_ok-write_side.ensures.ok);
      moments = subst
          (λ b. Changes S c.args.disk.now c.write_side.new.disk (if b then (length c.args.sides.now) else 1)
          (IsSidedInOrder (S.image c.args.disk.now) c.args.blocks.now c.args.sides.now c.args.size))
          (sym c.if-new.false)
          (last_change S c.args.blocks.now c.args.sides.now c.args.size c.args.disk.now c.write_side.new.disk
          (length c.args.sides.now - 1) (omega (arith, c.requires.some)) c.in_ok-write_side.ensures.moments);
      reads = c.in_ok-write_side.ensures.reads;
      failures = c.in_ok-write_side.ensures.failures;
    }

at-least-one : (n : ℕ) (b : Bool) → 1 ≤ n → 1 ≤ (if b then n else 1)
at-least-one n true some = some
at-least-one n false some = omega arith

pub returns-in_err-write_side : goal.returns-in_err-write_side
returns-in_err-write_side g c =
    let S = g.D.Sectors.history in
    record {
      ok = not-done c.from_residual.result _ c.from_residual.ensures.1 _;
      moments = changes_weaker S _ _ 1 _ _ _
          (at-least-one (length c.args.sides.now) c.args.new c.requires.some) (λ x h. h)
          (last_change S c.args.blocks.now c.args.sides.now c.args.size c.args.disk.now c.write_side.new.disk
          (length c.args.sides.now - 1) (omega (arith, c.requires.some)) c.in_err-write_side.ensures.moments);
      reads = omega (arith, c.in_err-write_side.ensures.reads);
      failures = tells-failed g.D.Sectors.history _ _ _ refl c.from_residual.result _ c.from_residual.ensures.1
          c.in_err-write_side.ensures.failures;
    }
