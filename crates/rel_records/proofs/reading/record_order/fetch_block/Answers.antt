-- The block is kept already, or lies behind the one that is, or is looked up.
use Rattle.std.proofs.Common.{arith, ap, refl, ◌∙◌, ◌≡◌, ◌+◌, Some, None, Option, sym, ℕ}
use Rattle.std.proofs.lemmas.Result.{IfOk-weaker}
use Rattle.d64_image.proofs.Moments.{no_reads, reads_weaker}
use Rattle.rel_records.proofs.lemmas.Told.{fault-is, none-done, passed-on}
use Rattle.rel_records.proofs.reading.record_order.fetch_block.Goals as goal
use Rattle.rel_records.proofs.reading.record_order.fetch_block.Goals.{in-Some+else-here-block+else-here-block-2, in_default}

pub returns-then-here-block-clause-here : goal.returns-then-here-block-clause-here
returns-then-here-block-clause-here g c =
    record {
      ok = c.in-Some.is ∙ ap Some c.if-here-block.true;
      err = tt;
      reads = reads_weaker g.D.Sectors.history c.args.disk.now c.args.disk.now 0 2 (omega arith)
          (no_reads g.D.Sectors.history c.args.disk.now);
      failures = refl;
    }

pub returns-then-block-here-eq1-clause-here : goal.returns-then-block-here-eq1-clause-here
returns-then-block-here-eq1-clause-here g c =
    let same : c.in-Some.here + 1 ≡ c.args.block = omega (arith, c.if-block-here-eq1.true, c.if-here-block-2.true) in
    record {
      ok = IfOk-weaker c.go_on.result _ _ (λ done e. e ∙ ap Some same) c.go_on.ensures.next.ok;
      err = c.go_on.ensures.next.err;
      reads = reads_weaker g.D.Sectors.history _ _ 1 2 (omega arith) c.go_on.ensures.next.reads;
      failures = c.go_on.ensures.next.failures;
    }

pub returns-in_err-read_block-clause-here : goal.returns-in_err-read_block-clause-here
returns-in_err-read_block-clause-here g c =
    record {
      ok = none-done c.from_residual.result _ c.from_residual.ensures.1 _;
      err = fault-is c.from_residual.result _ c.from_residual.ensures.1 _
          (λ e is. is ∙ c.in_err-read_block.ensures.err);
      reads = c.read_block.ensures.reads;
      failures = passed-on g.D.Sectors.history _ _ _ refl c.from_residual.result _ c.from_residual.ensures.1
          c.in_err-read_block.ensures.failures;
    }

pub returns-clause-here : goal.returns-clause-here
returns-clause-here g c =
    record {
      ok = refl;
      err = tt;
      reads = c.read_block.ensures.reads;
      failures = c.in_ok-read_block.ensures.failures;
    }

-- a block that is another one, or none, isn't the one that is kept
same-number : (a b : ℕ) → ◌≡◌ {A = Option ℕ} (Some a) (Some b) → a ≡ b
same-number a b e = cc

no-number : (b : ℕ) → ◌≡◌ {A = Option ℕ} None (Some b) → ⊥
no-number b e = cc

pub returns-then-here-block-clause-quiet : goal.returns-then-here-block-clause-quiet
returns-then-here-block-clause-quiet g c kept = no_reads g.D.Sectors.history c.args.disk.now

pub returns-in_err-read_block-clause-quiet : goal.returns-in_err-read_block-clause-quiet
returns-in_err-read_block-clause-quiet g c kept =
    elim c.match-last.branch [
      | in-Some+else-here-block+else-here-block-2 w ↦ absurd
          (w.if-here-block.false (same-number _ _ (sym w.in-Some.is ∙ kept)))
      | in_default w ↦ absurd (no-number _ (sym w.in_default.is ∙ kept))
    ]

pub returns-clause-quiet : goal.returns-clause-quiet
returns-clause-quiet g c kept =
    elim c.match-last.branch [
      | in-Some+else-here-block+else-here-block-2 w ↦ absurd
          (w.if-here-block.false (same-number _ _ (sym w.in-Some.is ∙ kept)))
      | in_default w ↦ absurd (no-number _ (sym w.in_default.is ∙ kept))
    ]

pub overflow_sub-block : goal.overflow_sub-block
overflow_sub-block g c = omega (arith, c.if-here-block-2.true)

pub go_on-requires-clause-there : goal.go_on-requires-clause-there
go_on-requires-clause-there g c = omega (arith, c.if-block-here-eq1.true, c.if-here-block-2.true, c.requires.there)
