-- Sector by sector, the last one first.
use Rattle.std.proofs.Common.{arith, refl, sym, subst, ◌≡◌, ◌∙◌, ◌+◌, ◌-◌, ◌<◌, ℕ, length}
use Rattle.d64_image.proofs.Moments.{no_change}
use Rattle.d64_image.specs.History.{Changes}
use Rattle.d64_image.specs.Images.{Image}
use Rattle.disk_layout.proofs.lemmas.layouts.Layouts.{get-contains}
use Rattle.rel_records.proofs.lemmas.Told.{not-done, tells-failed}
use Rattle.rel_records.proofs.lemmas.steps.Sided.{get-there}
use Rattle.file_changes.proofs.Chained.{IsWrittenFrom, beside-more, from-more, from-none}
use Rattle.file_changes.specs.PutWrites.{SameBeside}
use Rattle.file_changes.proofs.put_sectors.write_blocks.Goals as goal

pub loop-written-init : goal.loop-written-init
loop-written-init g c =
    let S = g.D.Sectors.history in
    let a = S.image c.args.disk.now in
    let P : ℕ → Type 0 = IsWrittenFrom a a c.args.places.now c.args.content.now in
    let all : length c.args.places.now ≡ length c.args.places.now - 0 = omega arith in
    record {
      done = subst P all (from-none a c.args.places.now c.args.content.now);
      changes = no_change S c.args.disk.now _ (λ q out. refl);
      reads = omega arith;
      failures = refl;
    }

pub returns-in_err-write_block : goal.returns-in_err-write_block
returns-in_err-write_block g c =
    let S = g.D.Sectors.history in
    let old = c.loop-written.invariant in
    let k : ℕ = length c.args.places.now - 1 - c.loop-written.written in
    let low : k < length c.args.places.now = omega (arith, c.loop-written-test.true) in
    let (p, at) = get-there c.args.places.now k low in
    record {
      ok = not-done c.from_residual.result _ c.from_residual.ensures.1 _;
      moments = beside-more S c.args.disk.now c.loop-written.disk c.write_block.new.disk c.args.places.now p _
          c.loop-written.written (length c.args.places.now)
          (omega (arith, c.loop-written-test.true))
          (get-contains c.args.places.now k p at) old.changes (c.in_err-write_block.ensures.moments p at);
      reads = omega (arith, c.in_err-write_block.ensures.reads, old.reads);
      failures = tells-failed S _ _ _ old.failures c.from_residual.result _ c.from_residual.ensures.1
          c.in_err-write_block.ensures.failures;
    }

pub loop-written-preserved : goal.loop-written-preserved
loop-written-preserved g c =
    let S = g.D.Sectors.history in
    let a = S.image c.args.disk.now in
    let old = c.loop-written.invariant in
    let k : ℕ = length c.args.places.now - 1 - c.loop-written.written in
    let low : k < length c.args.places.now = omega (arith, c.loop-written-test.true) in
    let (p, at) = get-there c.args.places.now k low in
    let before : length c.args.places.now - c.loop-written.written ≡ k + 1 =
    omega (arith, c.loop-written-test.true) in
    let after : k ≡ length c.args.places.now - (c.loop-written.written + 1) =
    omega (arith, c.loop-written-test.true) in
    let P : ℕ → Type 0 = IsWrittenFrom a (S.image c.loop-written.disk) c.args.places.now c.args.content.now in
    let Q : Image → Type 0 = λ i. IsWrittenFrom a i c.args.places.now c.args.content.now k in
    let R : ℕ → Type 0 = IsWrittenFrom a (S.image c.write_block.new.disk) c.args.places.now c.args.content.now in
    record {
      done = subst R after (subst Q (sym (c.in_ok-write_block.ensures.ok p at))
          (from-more a (S.image c.loop-written.disk) c.args.places.now c.args.content.now k p
          (S.whole c.loop-written.disk).size c.requires.once at (subst P before old.done)));
      changes = beside-more S c.args.disk.now c.loop-written.disk c.write_block.new.disk c.args.places.now p _
          c.loop-written.written (c.loop-written.written + 1) (omega arith)
          (get-contains c.args.places.now k p at) old.changes (c.in_ok-write_block.ensures.moments p at);
      reads = omega (arith, c.in_ok-write_block.ensures.reads, old.reads);
      failures = c.in_ok-write_block.ensures.failures ∙ old.failures;
    }

pub returns : goal.returns
returns g c =
    let S = g.D.Sectors.history in
    let a = S.image c.args.disk.now in
    let all : c.loop-written.written ≡ length c.args.places.now =
    omega (arith, c.loop-written-test.false, c.loop-written.auto) in
    let none : length c.args.places.now - c.loop-written.written ≡ 0 = omega (arith, all) in
    let P : ℕ → Type 0 = IsWrittenFrom a (S.image c.loop-written.disk) c.args.places.now c.args.content.now in
    let done : IsWrittenFrom a (S.image c.loop-written.disk) c.args.places.now c.args.content.now 0 =
    subst P none c.loop-written.invariant.done in
    record {
      ok = (done.chain, done.rest);
      moments = subst
          (λ (k : ℕ). Changes S c.args.disk.now c.loop-written.disk k (SameBeside a c.args.places.now)) all
          c.loop-written.invariant.changes;
      reads = omega (arith, c.loop-written.invariant.reads);
      failures = c.loop-written.invariant.failures;
    }
