-- One item more is read in each turn; the first bad one is the lowest.
use Rattle.std.proofs.Common.{ℕ, Err, IfErr, Option, Result, ap, arith, inl, inr, refl, set, subst, sym, ◌*◌, ◌+◌, ◌∙◌}
use Rattle.std.proofs.Common.{◌≡◌}
use Rattle.std.proofs.lemmas.Result.{err_from_is_err_and}
use Rattle.d64_image.proofs.Moments.{failed_later, no_reads, reads_then, reads_weaker}
use Rattle.d64_image.specs.History.{Failed}
use Rattle.d64_image.specs.Images.{Image}
use Rattle.host_session.specs.shop.LoadedShop.{IsJudgedItem, IsCountedTo}
use Rattle.host_session.specs.session.Opening.{Refuses}
use Rattle.host_session.specs.declared.faults.OpenFault.{OpenFault}
use Rattle.host_session.proofs.lemmas.judging.Judgments.{files-still, judged-device, judged-error, card-refused}
use Rattle.host_session.proofs.lemmas.judging.StockTables.{card-more, card-start, cards-done, stock-few}
use Rattle.rel_records.proofs.lemmas.reading.Keeping.{none-kept}
use Rattle.rel_records.specs.reading.Kept.{IsKept}
use Rattle.host_session.proofs.shop.judgment.read_stock.Goals as goal

pub loop-place-init : goal.loop-place-init
loop-place-init g c = record {
  reads = no_reads g.D.Sectors.history c.args.disk.now;
  kept =
      none-kept _ _ _ c.none-last.ensures;
  failures = refl;
  few = omega arith;
  so_far =
      λ f a h. subst (IsCountedTo f 0) (sym c.requires.none) (card-start f c.args.new.now h);
}

pub judge_item-requires-clause-of : goal.judge_item-requires-clause-of
judge_item-requires-clause-of g c =
    let S = g.D.Sectors.history in
    let (f, a, h) = c.requires.of in (
      f,
      files-still (S.image c.args.disk.now) (S.image c.loop-place.disk) f c.args.files.now
          c.loop-place.invariant.reads.image a,
    )

pub judge_item-requires-clause-kept : goal.judge_item-requires-clause-kept
judge_item-requires-clause-kept g c =
    let inv = c.loop-place.invariant in
    subst (λ (i : Image). IsKept i c.args.files.now.stock c.loop-place.last) (sym inv.reads.image) inv.kept

pub returns-in_err-quantity-clause-err : goal.returns-in_err-quantity-clause-err
returns-in_err-quantity-clause-err g c =
    let S = g.D.Sectors.history in
    let old = S.image c.args.disk.now in
    let (f, a, h) = c.requires.of in
    let inv = c.loop-place.invariant in
    let now = files-still old (S.image c.loop-place.disk) f c.args.files.now inv.reads.image a in
    let p = err_from_is_err_and c.from_residual.result c.from_residual.ensures.1 in
    let refused = card-refused (Failed S c.args.disk.now c.judge_item.new.disk) old f c.args.new.now h
    c.loop-place.place c.loop-place.cards inv.few a.has (inv.so_far f a h) c.in_err-quantity.field-0.0
    (λ e. failed_later S c.args.disk.now c.loop-place.disk c.judge_item.new.disk inv.failures
    (judged-device (Option (Option ℕ)) S c.loop-place.disk c.judge_item.new.disk c.in_err-quantity.field-0.0
    c.in_err-quantity.ensures.failures e))
    (c.in_err-quantity.ensures.err f (now, h)) in
    subst (λ (r : Result Unit OpenFault). IfErr r (Refuses (Failed S c.args.disk.now c.judge_item.new.disk) old))
    (sym (p.1 ∙ ap Err p.2)) refused

pub returns-in_err-quantity-clause-reads : goal.returns-in_err-quantity-clause-reads
returns-in_err-quantity-clause-reads g c =
    let S = g.D.Sectors.history in
    reads_then S c.args.disk.now c.loop-place.disk c.judge_item.new.disk (3 * c.loop-place.place) 3 30480
    (omega (arith, c.loop-place-test.true)) c.loop-place.invariant.reads c.judge_item.ensures.reads

pub returns-in_err-quantity-clause-failures : goal.returns-in_err-quantity-clause-failures
returns-in_err-quantity-clause-failures g c =
    let S = g.D.Sectors.history in
    let p = err_from_is_err_and c.from_residual.result c.from_residual.ensures.1 in
    judged-error (Option (Option ℕ)) S c.args.disk.now c.loop-place.disk c.judge_item.new.disk
    c.in_err-quantity.field-0.0 c.from_residual.result (p.1 ∙ ap Err p.2) c.loop-place.invariant.failures
    c.in_err-quantity.ensures.failures

pub returns-in-None-clause-ok : goal.returns-in-None-clause-ok
returns-in-None-clause-ok g c = λ f a h.
    let S = g.D.Sectors.history in
    let inv = c.loop-place.invariant in
    let now = files-still (S.image c.args.disk.now) (S.image c.loop-place.disk) f c.args.files.now inv.reads.image a in
    cards-done f c.args.new.now h c.loop-place.place c.loop-place.cards inv.few (inv.so_far f a h)
    (stock-few (S.image c.args.disk.now) (S.whole c.args.disk.now) f c.args.files.now a)
    (inr (subst (IsJudgedItem f (c.loop-place.place + 1)) c.in-None.is (c.in_ok-quantity.ensures.ok f (now, h))))

pub returns-in-None-clause-reads : goal.returns-in-None-clause-reads
returns-in-None-clause-reads g c =
    let S = g.D.Sectors.history in
    reads_then S c.args.disk.now c.loop-place.disk c.judge_item.new.disk (3 * c.loop-place.place) 3 30480
    (omega (arith, c.loop-place-test.true)) c.loop-place.invariant.reads c.judge_item.ensures.reads

pub loop-place-preserved : goal.loop-place-preserved
loop-place-preserved g c =
    let S = g.D.Sectors.history in
    let inv = c.loop-place.invariant in record {
      reads = reads_then S c.args.disk.now c.loop-place.disk c.judge_item.new.disk (3 * c.loop-place.place) 3
          (3 * (c.loop-place.place + 1)) (omega arith) inv.reads c.judge_item.ensures.reads;
      kept = subst (λ (i : Image). IsKept i c.args.files.now.stock c.judge_item.new.last) inv.reads.image
          c.judge_item.ensures.kept;
      failures = c.in_ok-quantity.ensures.failures ∙ inv.failures;
      few = omega (arith, c.loop-place-test.true);
      so_far = λ f a h.
          let now = files-still (S.image c.args.disk.now) (S.image c.loop-place.disk) f c.args.files.now inv.reads.image
          a in
          let more = card-more f c.args.new.now h c.loop-place.place c.loop-place.cards inv.few (inv.so_far f a h)
          c.in-Some.quantity (omega (arith, c.loop-place-test.true))
          (subst (IsJudgedItem f (c.loop-place.place + 1)) c.in-Some.is (c.in_ok-quantity.ensures.ok f (now, h))) in
          subst (λ k. IsCountedTo f (c.loop-place.place + 1) (set c.loop-place.cards k c.in-Some.quantity))
          (sym c.from.ensures) more;
    }

pub returns-clause-ok : goal.returns-clause-ok
returns-clause-ok g c = λ f a h.
    let S = g.D.Sectors.history in
    let inv = c.loop-place.invariant in
    let n : c.loop-place.place ≡ 10160 = omega (arith, inv.few, c.loop-place-test.false) in
    cards-done f c.args.new.now h c.loop-place.place c.loop-place.cards inv.few (inv.so_far f a h)
    (stock-few (S.image c.args.disk.now) (S.whole c.args.disk.now) f c.args.files.now a) (inl n)

pub returns-clause-reads : goal.returns-clause-reads
returns-clause-reads g c = reads_weaker g.D.Sectors.history c.args.disk.now c.loop-place.disk (3 * c.loop-place.place)
    30480 (omega (arith, c.loop-place.invariant.few)) c.loop-place.invariant.reads
