-- One till more is read in each turn; the first bad one is the lowest.
use Rattle.std.proofs.Common.{ℕ, Err, IfErr, Option, Result, ap, arith, inl, inr, refl, set, subst, sym, ◌*◌, ◌+◌, ◌∙◌}
use Rattle.std.proofs.Common.{◌≡◌}
use Rattle.std.proofs.lemmas.Result.{err_from_is_err_and}
use Rattle.d64_image.proofs.Moments.{failed_later, no_reads, reads_then, reads_weaker}
use Rattle.d64_image.specs.History.{Failed}
use Rattle.d64_image.specs.Images.{Image}
use Rattle.request_cards.specs.CardTexts.{Card}
use Rattle.host_session.specs.shop.LoadedShop.{AreTills, IsJudgedTill, IsReadTo}
use Rattle.host_session.specs.session.Opening.{Refuses}
use Rattle.host_session.specs.declared.faults.OpenFault.{OpenFault}
use Rattle.host_session.proofs.lemmas.judging.Judgments.{files-still, judged-device, judged-error, till-refused}
use Rattle.host_session.proofs.lemmas.judging.TillTables.{till-more, till-start, tills-done}
use Rattle.rel_records.proofs.lemmas.reading.Keeping.{none-kept}
use Rattle.rel_records.specs.reading.Kept.{IsKept}
use Rattle.host_session.proofs.shop.judgment.read_tills.Goals as goal

pub loop-place-init : goal.loop-place-init
loop-place-init g c = record {
  reads = no_reads g.D.Sectors.history c.args.disk.now;
  kept =
      none-kept _ _ _ c.none-last.ensures;
  failures = refl;
  few = omega arith;
  so_far =
      λ f a. subst (IsReadTo f 0) (sym c.requires.none) (till-start f);
}

pub judge_till-requires-clause-of : goal.judge_till-requires-clause-of
judge_till-requires-clause-of g c =
    let S = g.D.Sectors.history in
    let (f, a) = c.requires.of in (
      f,
      files-still (S.image c.args.disk.now) (S.image c.loop-place.disk) f c.args.files.now
          c.loop-place.invariant.reads.image a,
    )

pub judge_till-requires-clause-kept : goal.judge_till-requires-clause-kept
judge_till-requires-clause-kept g c =
    let inv = c.loop-place.invariant in
    subst (λ (i : Image). IsKept i c.args.files.now.requests c.loop-place.last) (sym inv.reads.image) inv.kept

pub returns-in_err-card-clause-err : goal.returns-in_err-card-clause-err
returns-in_err-card-clause-err g c =
    let S = g.D.Sectors.history in
    let old = S.image c.args.disk.now in
    let (f, a) = c.requires.of in
    let inv = c.loop-place.invariant in
    let now = files-still old (S.image c.loop-place.disk) f c.args.files.now inv.reads.image a in
    let p = err_from_is_err_and c.from_residual.result c.from_residual.ensures.1 in
    let refused = till-refused (Failed S c.args.disk.now c.judge_till.new.disk) old f c.loop-place.place
    c.loop-place.requests inv.few a.has (inv.so_far f a) c.in_err-card.field-0.0
    (λ e. failed_later S c.args.disk.now c.loop-place.disk c.judge_till.new.disk inv.failures
    (judged-device (Option (Option Card)) S c.loop-place.disk c.judge_till.new.disk c.in_err-card.field-0.0
    c.in_err-card.ensures.failures e))
    (c.in_err-card.ensures.err f now) in
    subst (λ (r : Result ℕ OpenFault). IfErr r (Refuses (Failed S c.args.disk.now c.judge_till.new.disk) old))
    (sym (p.1 ∙ ap Err p.2)) refused

pub returns-in_err-card-clause-reads : goal.returns-in_err-card-clause-reads
returns-in_err-card-clause-reads g c =
    let S = g.D.Sectors.history in
    reads_then S c.args.disk.now c.loop-place.disk c.judge_till.new.disk (3 * c.loop-place.place) 3 192
    (omega (arith, c.loop-place-test.true)) c.loop-place.invariant.reads c.judge_till.ensures.reads

pub returns-in_err-card-clause-failures : goal.returns-in_err-card-clause-failures
returns-in_err-card-clause-failures g c =
    let S = g.D.Sectors.history in
    let p = err_from_is_err_and c.from_residual.result c.from_residual.ensures.1 in
    judged-error (Option (Option Card)) S c.args.disk.now c.loop-place.disk c.judge_till.new.disk
    c.in_err-card.field-0.0 c.from_residual.result (p.1 ∙ ap Err p.2) c.loop-place.invariant.failures
    c.in_err-card.ensures.failures

pub returns-in-None-clause-ok : goal.returns-in-None-clause-ok
returns-in-None-clause-ok g c = λ f a.
    let S = g.D.Sectors.history in
    let inv = c.loop-place.invariant in
    let now = files-still (S.image c.args.disk.now) (S.image c.loop-place.disk) f c.args.files.now inv.reads.image a in
    tills-done f c.loop-place.place c.loop-place.requests inv.few (inv.so_far f a)
    (inr (subst (IsJudgedTill f (c.loop-place.place + 1)) c.in-None.is (c.in_ok-card.ensures.ok f now)))

pub returns-in-None-clause-reads : goal.returns-in-None-clause-reads
returns-in-None-clause-reads g c =
    let S = g.D.Sectors.history in
    reads_then S c.args.disk.now c.loop-place.disk c.judge_till.new.disk (3 * c.loop-place.place) 3 192
    (omega (arith, c.loop-place-test.true)) c.loop-place.invariant.reads c.judge_till.ensures.reads

pub loop-place-preserved : goal.loop-place-preserved
loop-place-preserved g c =
    let S = g.D.Sectors.history in
    let inv = c.loop-place.invariant in record {
      reads = reads_then S c.args.disk.now c.loop-place.disk c.judge_till.new.disk (3 * c.loop-place.place) 3
          (3 * (c.loop-place.place + 1)) (omega arith) inv.reads c.judge_till.ensures.reads;
      kept = subst (λ (i : Image). IsKept i c.args.files.now.requests c.judge_till.new.last) inv.reads.image
          c.judge_till.ensures.kept;
      failures = c.in_ok-card.ensures.failures ∙ inv.failures;
      few = omega (arith, c.loop-place-test.true);
      so_far = λ f a.
          let now = files-still (S.image c.args.disk.now) (S.image c.loop-place.disk) f c.args.files.now inv.reads.image
          a in
          let more = till-more f c.loop-place.place c.loop-place.requests inv.few (inv.so_far f a) c.in-Some.card
          (omega (arith, c.loop-place-test.true)) (subst (IsJudgedTill f (c.loop-place.place + 1)) c.in-Some.is
          (c.in_ok-card.ensures.ok f now)) in
          subst (λ k. IsReadTo f (c.loop-place.place + 1) (set c.loop-place.requests k c.in-Some.card))
          (sym c.from.ensures) more;
    }

pub returns-clause-ok : goal.returns-clause-ok
returns-clause-ok g c = λ f a.
    let inv = c.loop-place.invariant in
    let n : c.loop-place.place ≡ 64 = omega (arith, inv.few, c.loop-place-test.false) in
    subst (λ (m : ℕ). AreTills f m c.loop-place.requests) n (tills-done f c.loop-place.place c.loop-place.requests
    inv.few (inv.so_far f a) (inl n))

pub returns-clause-reads : goal.returns-clause-reads
returns-clause-reads g c = reads_weaker g.D.Sectors.history c.args.disk.now c.loop-place.disk (3 * c.loop-place.place)
    192 (omega (arith, c.loop-place.invariant.few)) c.loop-place.invariant.reads
