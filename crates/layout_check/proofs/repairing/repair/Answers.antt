-- The survey, then what is to be mended.
use Rattle.std.proofs.Common.{Err, Ok, [], ap, arith, refl, ◌∙◌}
use Rattle.std.proofs.lemmas.Result.{err_from_is_err_and}
use Rattle.d64_image.proofs.Moments.{no_write_then, reads_no_write}
use Rattle.d64_image.specs.Images.{sector}
use Rattle.disk_layout.proofs.lemmas.kept.Orders.{over_none}
use Rattle.disk_layout.specs.Directory.{map_place}
use Rattle.layout_check.specs.RepairOrder.{IsRight, repair_order}
use Rattle.layout_check.proofs.lemmas.repairing.RepairOrder.{layout_at, made_after, order_after, spare_after}
use Rattle.layout_check.proofs.lemmas.repairing.RepairReads.{repair_few, repair_reads}
use Rattle.layout_check.proofs.lemmas.repairing.RepairRuns.{
  clean_after,
  clean_but,
  cleaned,
  device_holds,
  device_sound,
  device_tells,
  marked_after,
  mended_after,
  mends_after,
  mends_none,
}
use Rattle.layout_check.proofs.lemmas.repairing.RepairWhole.{reads-held, repair-held}
use Rattle.layout_check.specs.declared.survey_outcome.Survey.{Survey}
use Rattle.layout_check.proofs.repairing.repair.Goals as goal

pub mend-requires : goal.mend-requires
mend-requires g c = let (l, is, of, reads) = c.in_ok-found.ensures.ok in
    let (now, marks, numbers) = marked_after g.D.Sectors.history _ _ _ 2114 c.survey.ensures.reads (l, is, of) in
    (l, [], now, rw c.owners.ensures marks, rw c.owners.ensures numbers)

pub returns-in_err-found : goal.returns-in_err-found
returns-in_err-found g c =
    let S = g.D.Sectors.history in
    let reads = c.survey.ensures.reads in
    let p = err_from_is_err_and c.from_residual.result c.from_residual.ensures.1 in
    record {
      ok = rw p.1 tt;
      err = rw (p.1, p.2) c.in_err-found.ensures.err;
      sound = λ never. rw p.1 (c.in_err-found.ensures.sound never);
      moments = mends_none S _ _ 2114 reads;
      whole = reads-held S _ _ 2114 reads;
      order = λ l is. over_none S (IsRight l) (repair_order l) _ _ 2114 reads;
      made = λ m also. rw p.1 tt;
      spare = λ changed. absurd (changed (ap (λ i. sector i map_place) reads.image));
      unsound = λ not_sound. reads;
      quiet = λ clean. reads_no_write S _ _ 2114 reads;
      failures = rw (p.1, p.2) c.in_err-found.ensures.failures;
      reads = omega (arith, reads.reads);
      few_reads = rw p.1 tt;
    }

pub returns : goal.returns
returns g c =
    let S = g.D.Sectors.history in
    let (l, is, of, few) = c.in_ok-found.ensures.ok in
    let (now, marks, numbers) = marked_after S _ _ _ 2114 c.survey.ensures.reads (l, is, of) in
    let mends = c.mend.ensures l [] now (rw c.owners.ensures marks) in
    let mended = c.in_ok-mend.ensures l [] now (rw c.owners.ensures marks) in
    record {
      -- mended
      ok = cleaned _ _ _ (l, is, of) (mended_after S [] _ _ _ 2114 c.survey.ensures.reads mended.clean);
      err = tt;
      sound = λ never. let l = c.in_ok-found.ensures.ok in (λ _. (l.0, l.1), λ _. refl);
      moments = mends_after S _ _ _ 2114 c.in_ok-found.ensures.reads mends.moments;
      whole = repair-held S _ _ l [] is (mends_after S _ _ _ 2114 c.in_ok-found.ensures.reads mends.moments l is).held
          (order_after S (IsRight l) l _ _ _ 2114 is c.survey.ensures.reads (mends.order l)).held;
      order = λ m also. order_after S (IsRight m) m _ _ _ 2114 also c.survey.ensures.reads (mends.order m);
      made = λ m also.
          let same = c.survey.ensures.reads.image in
          made_after (IsRight m) m _ _ _ same also (mended.made m (layout_at _ _ m same also));
      spare = spare_after S _ _ _ 2114 c.survey.ensures.reads mends.spare;
      unsound = λ not_sound. let l = c.in_ok-found.ensures.ok in absurd (not_sound (l.0, l.1));
      quiet = λ clean.
          let reads = c.in_ok-found.ensures.reads in
          no_write_then S _ _ _ (reads_no_write S _ _ 2114 reads)
          (mends.quiet clean.0 (clean_after S [] _ _ clean.0 2114 reads (clean_but _ clean)));
      failures = mended.failures ∙ c.in_ok-found.ensures.failures;
      reads = repair_reads S _ _ _ (Ok tt) _ c.in_ok-found.ensures.ok mended.reads;
      few_reads = λ m also. (repair_few S _ _ _ (Ok tt) m also _ c.in_ok-found.ensures.ok mended.reads).ok;
    }

pub returns-in_err-mend : goal.returns-in_err-mend
returns-in_err-mend g c =
    let S = g.D.Sectors.history in
    let (l, is, of, few) = c.in_ok-found.ensures.ok in
    let (now, marks, numbers) = marked_after S _ _ _ 2114 c.survey.ensures.reads (l, is, of) in
    let mends = c.mend.ensures l [] now (rw c.owners.ensures marks) in
    let mended = c.in_err-mend.ensures l [] now (rw c.owners.ensures marks) in
    let p = err_from_is_err_and c.from_residual-in_err-mend.result c.from_residual-in_err-mend.ensures.1 in
    record {
      ok = rw p.1 tt;
      -- a failure while it is mended
      err = rw (p.1, p.2) (device_holds S _ _ _ _ mended.failures);
      sound = λ never. absurd (device_sound S _ _ _ _ c.in_ok-found.ensures.failures mended.failures
          never);
      moments = mends_after S _ _ _ 2114 c.in_ok-found.ensures.reads mends.moments;
      whole = repair-held S _ _ l [] is (mends_after S _ _ _ 2114 c.in_ok-found.ensures.reads mends.moments l is).held
          (order_after S (IsRight l) l _ _ _ 2114 is c.survey.ensures.reads (mends.order l)).held;
      order = λ m also. order_after S (IsRight m) m _ _ _ 2114 also c.survey.ensures.reads (mends.order m);
      made = λ m also. rw p.1 tt;
      spare = spare_after S _ _ _ 2114 c.survey.ensures.reads mends.spare;
      unsound = λ not_sound. let l = c.in_ok-found.ensures.ok in absurd (not_sound (l.0, l.1));
      quiet = λ clean.
          let reads = c.in_ok-found.ensures.reads in
          no_write_then S _ _ _ (reads_no_write S _ _ 2114 reads)
          (mends.quiet clean.0 (clean_after S [] _ _ clean.0 2114 reads (clean_but _ clean)));
      failures = rw (p.1, p.2) (device_tells S Survey _ _ _ _ c.in_ok-found.ensures.failures
          mended.failures);
      reads = repair_reads S _ _ _ (Err _) _ c.in_ok-found.ensures.ok mended.reads;
      few_reads = rw p.1 tt;
    }
