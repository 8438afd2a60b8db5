-- The block before the last, then the last.
use Rattle.rel_records.proofs.lemmas.filling.Fulls.{records-few}
use Rattle.std.proofs.Common.{arith, refl, sym, ap, length, ◌≡◌, ◌∙◌, ◌*◌, subst, ℕ}
use Rattle.d64_image.proofs.Moments.{no_change, changes_weaker}
use Rattle.rel_records.proofs.lemmas.filling.BeforeLast.{filled-already, old-grows}
use Rattle.rel_records.proofs.lemmas.filling.ReadyToEnd.{had-is}
use Rattle.rel_records.proofs.lemmas.filling.FilledMoments.{from-low, filled-end, filled-moments, filling-moments}
use Rattle.disk_layout.specs.Layout.{record_length}
use Rattle.rel_records.proofs.lemmas.filling.Standing.{had-fit}
use Rattle.rel_records.specs.growth.Growth.{full, records_had}
use Rattle.rel_records.proofs.lemmas.Told.{not-done}
use Rattle.rel_records.proofs.lemmas.growth.Grows.{at-some}
use Rattle.rel_records.proofs.growth.filling.fill_up.Goals as goal
use Rattle.rel_records.proofs.lemmas.steps.Sided.{counted_once}
use Rattle.rel_records.specs.growth.Steps.{IsEnd}

-- What the last block leaves that was written, or the one before it where the device failed.
pub returns-in_err-fill_before-clause-file : goal.returns-in_err-fill_before-clause-file
returns-in_err-fill_before-clause-file g c l n f at =
    record {
      ok = not-done c.from_residual.result _ c.from_residual.ensures.1 _;
      moments =
          filling-moments g.D.Sectors.history c.args.disk.now l n f c.args.parts.now c.args.had
          (c.args.had * c.args.parts.now.size) c.full_records-total.result at
          (record {
            count = c.requires.had;
            begins = refl;
            sum = c.full_records-total.ensures ∙ ap (λ k. full c.args.parts.now.size k) c.len-count.ensures.value;
            other = c.if-had-total.false;
          })
          c.fill_before.new.disk c.in_err-fill_before.ensures.moments;
    }

pub returns-clause-file : goal.returns-clause-file
returns-clause-file g c l n f at =
    let S = g.D.Sectors.history in
    let p = c.args.parts.now in
    let P : ℕ → Type 0 = λ k. IsEnd k p.size (c.args.had * p.size) p.last c.fill_last.new.bytes in
    record {
      ok =
          filled-end S c.args.disk.now l n f c.args.parts.now c.args.had (c.args.had * c.args.parts.now.size)
          c.full_records-total.result at
          (record {
            count = c.requires.had;
            begins = refl;
            sum = c.full_records-total.ensures ∙ ap (λ k. full c.args.parts.now.size k) c.len-count.ensures.value;
            other = c.if-had-total.false;
          })
          c.fill_before.new.disk c.in_ok-fill_before.ensures.ok c.last_place.result
          (c.last_place.ensures at.front at.last_place (at.blocks ∙ at.last_is)) c.fill_last.new.bytes
          c.fill_last.ensures.sector (subst P c.len-count.ensures.value c.fill_last.ensures.end)
          c.write.new.self c.write.result _ refl refl refl refl refl refl refl refl c.write.ensures.ok;
      moments =
          filled-moments S c.args.disk.now l n f c.args.parts.now c.args.had (c.args.had * c.args.parts.now.size)
          c.full_records-total.result at
          (record {
            count = c.requires.had;
            begins = refl;
            sum = c.full_records-total.ensures ∙ ap (λ k. full c.args.parts.now.size k) c.len-count.ensures.value;
            other = c.if-had-total.false;
          })
          c.fill_before.new.disk c.in_ok-fill_before.ensures.ok c.last_place.result
          (c.last_place.ensures at.front at.last_place (at.blocks ∙ at.last_is)) c.fill_last.new.bytes
          c.fill_last.ensures.sector (subst P c.len-count.ensures.value c.fill_last.ensures.end)
          c.write.new.self c.in_ok-fill_before.ensures.moments c.write.ensures.held
          (counted_once S _ _ c.write.result c.write.ensures.counted c.write.ensures.uncounted);
    }

pub returns-then-had-total-clause-file : goal.returns-then-had-total-clause-file
returns-then-had-total-clause-file g c l n f at =
    let S = g.D.Sectors.history in
    let p = c.args.parts.now in
    let had : c.args.had ≡ records_had f = c.requires.had ∙ sym (had-is (S.image c.args.disk.now) l n f p at) in
    record {
      ok =
          filled-already (S.image c.args.disk.now) l n f p (S.whole c.args.disk.now) at
          (sym had ∙ c.if-had-total.true ∙ c.full_records-total.ensures
          ∙ ap (λ k. full p.size k) c.len-count.ensures.value ∙ ap (λ k. full k (length p.blocks.items)) at.size
          ∙ ap (λ xs. full (record_length f.slot) (length xs)) at.blocks);
      moments =
          changes_weaker S c.args.disk.now c.args.disk.now 0 _ _ _ (omega arith) (λ i h. h)
          (no_change S c.args.disk.now _
          (old-grows (S.image c.args.disk.now) l n f c.args.parts.now (S.whole c.args.disk.now) at _));
    }

pub overflow_mul-from : goal.overflow_mul-from
overflow_mul-from g c =
    let S = g.D.Sectors.history in
    let (l, n, f, at) = c.requires.at in
    let a = S.image c.args.disk.now in
    let had : c.args.had ≡ records_had f = c.requires.had ∙ sym (had-is a l n f c.args.parts.now at) in
    let same : c.args.had * c.args.parts.now.size ≡ records_had f * record_length f.slot = ap
    (λ k. k * c.args.parts.now.size) had ∙ ap (λ k. records_had f * k) at.size in
    let many : length c.args.parts.now.blocks.items ≡ length f.blocks = ap length at.blocks in
    omega (arith, same, had-fit a l n f c.args.parts.now at (S.whole c.args.disk.now), c.requires.few, many)

pub fill_before-requires-clause-from : goal.fill_before-requires-clause-from
fill_before-requires-clause-from g c =
    let (l, n, f, at) = c.requires.at in
    from-low g.D.Sectors.history c.args.disk.now l n f c.args.parts.now c.args.had (c.args.had * c.args.parts.now.size)
    c.full_records-total.result at
    (record {
      count = c.requires.had;
      begins = refl;
      sum = c.full_records-total.ensures ∙ ap (λ k. full c.args.parts.now.size k) c.len-count.ensures.value;
      other = c.if-had-total.false;
    })

pub fill_last-requires-clause-some : goal.fill_last-requires-clause-some
fill_last-requires-clause-some g c = let (l, n, f, at) = c.requires.at in
    omega (
      arith,
      at-some (g.D.Sectors.history.image c.args.disk.now) l n f c.args.parts.now at,
      c.len-count.ensures.value,
    )

pub fill_before-requires-clause-total : goal.fill_before-requires-clause-total
fill_before-requires-clause-total g c = omega (
  arith,
  c.len-count.ensures.value,
  c.requires.few,
  records-few c.args.parts.now.size c.len-count.result c.full_records-total.result c.full_records-total.ensures,
)

pub fill_last-requires-clause-length : goal.fill_last-requires-clause-length
fill_last-requires-clause-length g c = record {
  low = c.args.parts.now.size_low;
  high = c.args.parts.now.size_high;
}

pub returns-then-had-total-clause-reads : goal.returns-then-had-total-clause-reads
returns-then-had-total-clause-reads g c = omega arith

pub returns-clause-reads : goal.returns-clause-reads
returns-clause-reads g c = omega (arith, c.write.ensures.reads, c.in_ok-fill_before.ensures.reads)

pub overflow_cast-count : goal.overflow_cast-count
overflow_cast-count g c = omega (arith, c.len-count.ensures.value, c.requires.few)

pub fill_last-requires-clause-few : goal.fill_last-requires-clause-few
fill_last-requires-clause-few g c = omega (arith, c.len-count.ensures.value, c.requires.few)
