-- Block by block.
use Rattle.std.proofs.Common.{arith, refl, sym, ap, subst, ◌∙◌, ◌≡◌, ◌≤◌, ◌+◌, ℕ, length}
use Rattle.d64_image.proofs.Moments.{changes_weaker, no_change}
use Rattle.disk_layout.specs.View.{blocks_free}
use Rattle.rel_records.proofs.lemmas.filling.BeforeLast.{old-grows}
use Rattle.rel_records.proofs.lemmas.growth.Running.{block-then, low-full, room-next, room-step, run-here, run-mono}
use Rattle.rel_records.proofs.lemmas.growth.Running.{run-run}
use Rattle.rel_records.proofs.lemmas.filling.Standing.{pos}
use Rattle.rel_records.specs.growth.Growth.{run_writes}
use Rattle.rel_records.specs.growth.Steps.{IsRunTo, taken_next}
use Rattle.rel_records.proofs.lemmas.Told.{not-done}
use Rattle.rel_records.proofs.growth.add_blocks.Goals as goal

pub loop-count-init : goal.loop-count-init
loop-count-init g c =
    let S = g.D.Sectors.history in
    let d = c.args.disk.now in
    record {
      run = λ l n f at up. run-here (S.image d) l n f c.args.parts.now c.len-count.result (S.whole d) at up
          (ap length (sym at.blocks) ∙ sym c.len-count.ensures.value);
      changes = λ l n f at up. changes_weaker S d d 0 _ _ _ (omega arith) (λ i h. h)
          (no_change S d _ (old-grows (S.image d) l n f c.args.parts.now (S.whole d) at _));
      room = rw c.len-count.ensures.value c.requires.room;
      long = sym c.len-count.ensures.value;
      reads = omega arith;
      failures = refl;
    }

pub add_block-requires-clause-at : goal.add_block-requires-clause-at
add_block-requires-clause-at g c =
    let (l, n, f, at, up) = c.requires.at in
    let run = c.loop-count.invariant.run l n f at up in
    (run.layout, n, run.file, run.at)

pub add_block-requires-clause-room : goal.add_block-requires-clause-room
add_block-requires-clause-room g c =
    let next = room-next c.loop-count._count c.args.wanted _ (omega (arith, c.loop-count-test.true))
    c.loop-count.invariant.room in
    let P : ℕ → Type 0 = λ k. taken_next k ≤ blocks_free c.loop-count.parts.map.bytes in
    subst P (sym c.loop-count.invariant.long) next

pub returns-in_err-add_block-clause-file : goal.returns-in_err-add_block-clause-file
returns-in_err-add_block-clause-file g c l n f at up =
    let S = g.D.Sectors.history in
    let d = c.args.disk.now in
    let k = c.loop-count._count in
    let run = c.loop-count.invariant.run l n f at up in
    let first : length f.blocks ≤ k = omega
    (arith, ap length at.blocks, c.len-count.ensures.value, c.loop-count.auto._count) in
    let lt : k + 1 ≤ c.args.wanted = omega (arith, c.loop-count-test.true) in
    let p = pos (S.image d) l n f c.args.parts.now at in
    let longer = block-then S d c.loop-count.disk c.add_block.new.disk l n f k c.args.wanted c.loop-count.parts
    (low-full f k p up first) first lt p at.there at.clean.layout run (c.loop-count.invariant.changes l n f at up)
    ((c.in_err-add_block.ensures.file run.layout n run.file run.at run.filled).moments) in
    record {
      ok = not-done c.from_residual.result _ c.from_residual.ensures.1 _;
      moments = changes_weaker S d c.add_block.new.disk _ _ _ _
          (run-mono (length f.blocks) (k + 1) c.args.wanted (omega (arith, first)) lt) (λ i h. h) longer;
    }

pub loop-count-preserved : goal.loop-count-preserved
loop-count-preserved g c =
    let S = g.D.Sectors.history in
    let d = c.args.disk.now in
    let a = S.image d in
    let k = c.loop-count._count in
    let lt : k + 1 ≤ c.args.wanted = omega (arith, c.loop-count-test.true) in
    let (l0, n0, f0, at0, up0) = c.requires.at in
    let run0 = c.loop-count.invariant.run l0 n0 f0 at0 up0 in
    let more0 = (c.in_ok-add_block.ensures.file run0.layout n0 run0.file run0.at run0.filled).ok in
    record {
      run = λ l n f at up.
          let run = c.loop-count.invariant.run l n f at up in
          let first : length f.blocks ≤ k = omega
          (arith, ap length at.blocks, c.len-count.ensures.value, c.loop-count.auto._count) in
          let p = pos a l n f c.args.parts.now at in
          let block = (c.in_ok-add_block.ensures.file run.layout n run.file run.at run.filled).ok.run in
          let P : ℕ
          → Type 0 = λ j. IsRunTo (S.image c.loop-count.disk) (S.image c.add_block.new.disk) run.layout n run.file
          (j + 1) c.add_block.new.parts in
          run-run a (S.image c.loop-count.disk) l n f k (k + 1) c.loop-count.parts (low-full f k p up first)
          (omega arith) p at.there run (S.image c.add_block.new.disk) c.add_block.new.parts
          (subst P run.count block);
      changes = λ l n f at up.
          let run = c.loop-count.invariant.run l n f at up in
          let first : length f.blocks ≤ k = omega
          (arith, ap length at.blocks, c.len-count.ensures.value, c.loop-count.auto._count) in
          let p = pos a l n f c.args.parts.now at in
          block-then S d c.loop-count.disk c.add_block.new.disk l n f k c.args.wanted c.loop-count.parts
          (low-full f k p up first) first lt p at.there at.clean.layout run (c.loop-count.invariant.changes l n f at up)
          ((c.in_ok-add_block.ensures.file run.layout n run.file run.at run.filled).moments);
      room = room-step k c.args.wanted _ _ (omega (arith, lt)) c.loop-count.invariant.room
          (ap (λ j. blocks_free c.add_block.new.parts.map.bytes + taken_next j) (sym run0.count) ∙ more0.free);
      long = ap length more0.run.at.blocks ∙ more0.run.count ∙ ap (λ j. j + 1) run0.count;
      reads = omega (arith, c.in_ok-add_block.ensures.reads, c.loop-count.invariant.reads);
      failures = c.in_ok-add_block.ensures.failures ∙ c.loop-count.invariant.failures;
    }

pub returns-clause-file : goal.returns-clause-file
returns-clause-file g c l n f at up =
    let S = g.D.Sectors.history in
    let e : c.loop-count._count ≡ c.args.wanted = omega
    (arith, c.loop-count-test.false, c.loop-count.auto, c.requires.more, c.len-count.ensures.value) in
    let P : ℕ
    → Type 0 = λ k. IsRunTo (S.image c.args.disk.now) (S.image c.loop-count.disk) l n f k c.loop-count.parts in
    record {
      ok = subst P e (c.loop-count.invariant.run l n f at up);
      moments = changes_weaker S _ _ _ _ _ _ (omega (arith, ap (run_writes (length f.blocks)) e)) (λ i h. h)
          (c.loop-count.invariant.changes l n f at up);
    }

pub returns-in_err-add_block-clause-reads : goal.returns-in_err-add_block-clause-reads
returns-in_err-add_block-clause-reads g c = omega
    (arith, c.in_err-add_block.ensures.reads, c.loop-count.invariant.reads)
