-- The tail of the block before the last.
use Rattle.std.proofs.Common.{ℕ, arith, refl, sym, ap, inl, inr, length, ◌≡◌, ◌≤◌, ◌<◌, ◌∙◌, ◌+◌, ◌-◌, ◌*◌}
use Rattle.std.specs.Prelude.{Some, if◌then◌else◌, nat_lt, slice_get}
use Rattle.std.proofs.lemmas.Bool.{lt-ltb}
use Rattle.std.proofs.lemmas.Result.{on_ok_weaker}
use Rattle.d64_image.proofs.Moments.{changes_then, reads_change, write_change, changes_weaker, no_change}
use Rattle.d64_image.specs.Images.{put}
use Rattle.rel_records.proofs.growth.filling.fill_before.Goals as goal
use Rattle.rel_records.proofs.lemmas.Told.{not-done, tells-after, tells-failed}
use Rattle.rel_records.proofs.lemmas.filling.ReadyToEnd.{tail-of}
use Rattle.rel_records.proofs.lemmas.steps.Sided.{counted_once}
use Rattle.disk_layout.proofs.lemmas.lists.Lists.{read-there}

pub returns : goal.returns
returns g c =
    let S = g.D.Sectors.history in
    let a = S.image c.args.disk.now in
    let p = c.args.parts.now in
    let place = c.index-deref-count.result in
    let low : c.args.from < 254 * (length p.blocks.items - 1) = omega
    (arith, c.if-from-count.false, c.len-count.ensures.value) in
    let at : slice_get p.blocks.items (c.len-count.result - 2) ≡ Some place = read-there p.blocks.items _ place
    (omega (arith, low, c.len-count.ensures.value)) (rw c.deref.ensures.0 at c.index-deref-count.is) in
    let tail = tail-of a place c.read.new.to c.fill_tail.new.bytes c.len-count.result (length p.blocks.items)
    c.args.from p.size c.args.total c.len-count.ensures.value c.in_ok-read.ensures.sector c.fill_tail.ensures.sector
    c.fill_tail.ensures.link c.fill_tail.ensures.kept c.fill_tail.ensures.filled in
    let once : 0 + 1 ≤ (if nat_lt c.args.from (254 * (length p.blocks.items - 1)) then 1 else 0) = omega
    (arith, ap {B = ℕ} (λ b. if b then 1 else 0) (lt-ltb c.args.from (254 * (length p.blocks.items - 1)) low)) in
    record {
      ok = on_ok_weaker c.write.result (λ e. inr (
        low,
        (
          place,
          c.fill_tail.new.bytes,
          ap (λ k. slice_get p.blocks.items (k - 2))
              (sym c.len-count.ensures.value) ∙ at,
          tail,
          e ∙ ap (λ i. put i place c.fill_tail.new.bytes) c.in_ok-read.ensures.reads.image,
        ),
      )) c.write.ensures.ok;
      moments =
          changes_then S c.args.disk.now c.read.new.self c.write.new.self 0 1 _ _ once
          (reads_change S c.args.disk.now c.read.new.self 1 _ c.in_ok-read.ensures.reads (inl refl))
          (write_change S c.read.new.self c.write.new.self (S.image c.read.new.self)
          (put (S.image c.read.new.self) place c.fill_tail.new.bytes) _ c.write.ensures.held
          (counted_once S _ _ c.write.result c.write.ensures.counted c.write.ensures.uncounted)
          (inl c.in_ok-read.ensures.reads.image)
          (inr (inr (
            low,
            (
              place,
              c.fill_tail.new.bytes,
              ap (λ k. slice_get p.blocks.items (k - 2)) (sym c.len-count.ensures.value)
                  ∙ at,
              tail,
              ap (λ i. put i place c.fill_tail.new.bytes) c.in_ok-read.ensures.reads.image,
            ),
          ))));
      reads = omega (arith, c.write.ensures.reads, c.in_ok-read.ensures.reads.reads);
      failures = tells-after g.D.Sectors.history _ _ _ c.in_ok-read.ensures.failures c.write.result
          c.write.ensures.failures;
    }

pub returns-then-from-count : goal.returns-then-from-count
returns-then-from-count g c =
    let S = g.D.Sectors.history in
    record {
      ok = inl (omega (arith, c.if-from-count.true, c.len-count.ensures.value), refl);
      moments = changes_weaker S _ _ 0 _ _ _ (omega arith) (λ x h. h) (no_change S c.args.disk.now _ (inl refl));
      reads = omega arith;
      failures = refl;
    }

pub returns-in_err-read : goal.returns-in_err-read
returns-in_err-read g c =
    let S = g.D.Sectors.history in
    record {
      ok = not-done c.from_residual.result _ c.from_residual.ensures.1 _;
      moments = changes_weaker S _ _ 0 _ _ _ (omega arith) (λ x h. h)
          (reads_change S c.args.disk.now c.read.new.self 1 _ c.read.ensures.reads (inl refl));
      reads = c.read.ensures.reads.reads;
      failures = tells-failed g.D.Sectors.history _ _ _ refl c.from_residual.result _ c.from_residual.ensures.1
          c.in_err-read.ensures.failures;
    }

pub overflow_cast-count : goal.overflow_cast-count
overflow_cast-count g c = omega (arith, c.len-count.ensures.fits)

pub overflow_sub-count : goal.overflow_sub-count
overflow_sub-count g c = omega (arith, c.len-count.ensures.value, c.requires.some)

pub overflow_mul-count : goal.overflow_mul-count
overflow_mul-count g c = omega (arith, c.len-count.ensures.fits)

pub overflow_sub-place : goal.overflow_sub-place
overflow_sub-place g c = omega (arith, c.if-from-count.false, c.len-count.ensures.value)

pub offset_bounds-deref-count : goal.offset_bounds-deref-count
offset_bounds-deref-count g c = omega (arith, c.len-count.ensures.fits)

pub bounds-deref-count : goal.bounds-deref-count
bounds-deref-count g c = omega (arith, ap length c.deref.ensures.0, c.len-count.ensures.value, c.requires.some)

pub overflow_cast-count-2 : goal.overflow_cast-count-2
overflow_cast-count-2 g c = omega (arith, c.len-count.ensures.fits)

pub overflow_sub-count-2 : goal.overflow_sub-count-2
overflow_sub-count-2 g c = omega (arith, c.if-from-count.false, c.len-count.ensures.value)

pub overflow_mul-count-2 : goal.overflow_mul-count-2
overflow_mul-count-2 g c = omega (arith, c.len-count.ensures.fits)

pub fill_tail-requires-clause-at : goal.fill_tail-requires-clause-at
fill_tail-requires-clause-at g c = omega (arith, c.len-count.ensures.fits)
