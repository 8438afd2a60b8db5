-- The survey, the strays, then what is to be mended.
use Rattle.std.proofs.Common.{ℕ, Err, Ok, ap, arith, refl, sym, ◌∙◌, subst}
use Rattle.std.proofs.lemmas.Result.{err_from_is_err_and}
use Rattle.d64_image.proofs.Moments.{reads_no_write, reads_then}
use Rattle.d64_image.specs.Images.{Image, sector}
use Rattle.disk_layout.proofs.lemmas.kept.Orders.{over_none}
use Rattle.disk_layout.specs.Directory.{map_place}
use Rattle.disk_layout.specs.Layout.{IsLayout}
use Rattle.layout_check.specs.RepairOrder.{IsRightBut, repair_order}
use Rattle.layout_check.proofs.lemmas.repairing.KeepRuns.{keep_run, kept_of, layout_after, table_before}
use Rattle.layout_check.proofs.lemmas.repairing.RepairReads.{keeping_few, keeping_reads}
use Rattle.layout_check.proofs.lemmas.repairing.RepairRuns.{
  device_holds,
  device_sound,
  device_tells,
  mended_after,
  mends_none,
  told_after,
}
use Rattle.layout_check.proofs.lemmas.repairing.RepairWhole.{reads-held, repair-held}
use Rattle.layout_check.proofs.lemmas.repairing.Strays.{frees_none}
use Rattle.layout_check.proofs.repairing.repair_keeping.Goals as goal

pub taken_sectors-requires : goal.taken_sectors-requires
taken_sectors-requires g c = let (l, is, of, few) = c.in_ok-found.ensures.ok in
    told_after g.D.Sectors.history _ _ _ 2114 c.survey.ensures.reads (l, is, of)

pub mend-requires : goal.mend-requires
mend-requires g c =
    let t = c.in_ok-taken.ensures.table in
    let P : Image → Type 0 = λ i. IsLayout i t.layout in
    (t.layout, t.strays, subst P (sym c.taken_sectors.ensures.reads.image) t.sound, t.marks, t.numbers)

pub returns-in_err-found : goal.returns-in_err-found
returns-in_err-found g c =
    let S = g.D.Sectors.history in
    let reads = c.survey.ensures.reads in
    let p = err_from_is_err_and c.from_residual.result c.from_residual.ensures.1 in
    record {
      ok = rw p.1 tt;
      err = rw (p.1, p.2) c.in_err-found.ensures.err;
      sound = λ never. rw p.1 (c.in_err-found.ensures.sound never);
      moments = mends_none S _ _ 2114 reads;
      frees = frees_none S _ _ 2114 reads;
      whole = reads-held S _ _ 2114 reads;
      order = λ l strays is are. over_none S (IsRightBut strays l) (repair_order l) _ _ 2114 reads;
      made = λ l strays is are. rw p.1 tt;
      spare = λ changed. absurd (changed (ap (λ i. sector i map_place) reads.image));
      unsound = λ not_sound. reads;
      quiet = λ l strays are clean. reads_no_write S _ _ 2114 reads;
      failures = rw (p.1, p.2) c.in_err-found.ensures.failures;
      reads = omega (arith, reads.reads);
      few_reads = rw p.1 tt;
    }

pub returns-in_err-taken : goal.returns-in_err-taken
returns-in_err-taken g c =
    let S = g.D.Sectors.history in
    let (l, is, of, few) = c.in_ok-found.ensures.ok in
    let reads = reads_then S _ _ _ 2114 1 2115 (omega arith) c.survey.ensures.reads c.taken_sectors.ensures.reads in
    let told = c.in_err-taken.ensures.failures in
    let p = err_from_is_err_and c.from_residual-in_err-taken.result c.from_residual-in_err-taken.ensures.1 in
    record {
      ok = rw p.1 tt;
      err = rw (p.1, p.2) (device_holds S _ _ _ _ told);
      sound = λ never. absurd (device_sound S _ _ _ _ c.in_ok-found.ensures.failures told never);
      moments = mends_none S _ _ 2115 reads;
      frees = frees_none S _ _ 2115 reads;
      whole = reads-held S _ _ 2115 reads;
      order = λ l strays is are. over_none S (IsRightBut strays l) (repair_order l) _ _ 2115 reads;
      made = λ l strays is are. rw p.1 tt;
      spare = λ changed. absurd (changed (ap (λ i. sector i map_place) reads.image));
      unsound = λ not_sound. absurd (not_sound (l, is));
      quiet = λ l strays are clean. reads_no_write S _ _ 2115 reads;
      failures = rw (p.1, p.2) (device_tells S ℕ _ _ _ _ c.in_ok-found.ensures.failures told);
      reads = omega (arith, reads.reads);
      few_reads = rw p.1 tt;
    }

pub returns-in_err-mend : goal.returns-in_err-mend
returns-in_err-mend g c =
    let S = g.D.Sectors.history in
    let (l, is, of, few) = c.in_ok-found.ensures.ok in
    let reads = reads_then S _ _ _ 2114 1 2115 (omega arith) c.survey.ensures.reads c.taken_sectors.ensures.reads in
    let t = table_before S _ _ 2114 c.survey.ensures.reads _ _ c.in_ok-taken.ensures.table in
    let now = layout_after S _ _ 2115 reads c.in_ok-taken.taken c.in_ok-taken.strays t.layout t.sound in
    let mends = keep_run S _ _ 2115 reads _ _ t _ _ c.in_err-mend.ensures in
    let told = (c.in_err-mend.ensures t.layout t.strays now t.marks).failures in
    let same = c.in_ok-taken.ensures.failures ∙ c.in_ok-found.ensures.failures in
    let p = err_from_is_err_and c.from_residual-in_err-mend.result c.from_residual-in_err-mend.ensures.1 in
    record {
      ok = rw p.1 tt;
      err = rw (p.1, p.2) (device_holds S _ _ _ _ told);
      sound = λ never. absurd (device_sound S _ _ _ _ same told never);
      moments = mends.moments;
      frees = mends.frees;
      whole = repair-held S _ _ t.layout t.strays t.sound (mends.moments t.layout t.sound).held
          (mends.order t.layout t.strays t.sound t.are).held;
      order = mends.order;
      made = λ l strays is are. rw p.1 tt;
      spare = mends.spare;
      unsound = λ not_sound. absurd (not_sound (l, is));
      quiet = mends.quiet;
      failures = rw (p.1, p.2) (device_tells S ℕ _ _ _ _ same told);
      reads = keeping_reads S _ _ _ _ (Err _) _ (l, is, of, few) c.taken_sectors.ensures.reads.reads
          (mends.reads l is);
      few_reads = rw p.1 tt;
    }

pub returns : goal.returns
returns g c =
    let S = g.D.Sectors.history in
    let (l, is, of, few) = c.in_ok-found.ensures.ok in
    let reads = reads_then S _ _ _ 2114 1 2115 (omega arith) c.survey.ensures.reads c.taken_sectors.ensures.reads in
    let t = table_before S _ _ 2114 c.survey.ensures.reads _ _ c.in_ok-taken.ensures.table in
    let now = layout_after S _ _ 2115 reads c.in_ok-taken.taken c.in_ok-taken.strays t.layout t.sound in
    let mends = keep_run S _ _ 2115 reads _ _ t _ _ c.in_ok-mend.ensures in
    let done = c.in_ok-mend.ensures t.layout t.strays now t.marks in
    let mended = mended_after S t.strays _ _ _ 2115 reads done.clean in
    record {
      ok = kept_of _ _ _ _ t mended;
      err = tt;
      sound = λ never. (λ _. (l, is), λ _. refl);
      moments = mends.moments;
      frees = mends.frees;
      whole = repair-held S _ _ t.layout t.strays t.sound (mends.moments t.layout t.sound).held
          (mends.order t.layout t.strays t.sound t.are).held;
      order = mends.order;
      made = mends.made;
      spare = mends.spare;
      unsound = λ not_sound. absurd (not_sound (l, is));
      quiet = mends.quiet;
      failures = done.failures ∙ c.in_ok-taken.ensures.failures ∙ c.in_ok-found.ensures.failures;
      reads = keeping_reads S _ _ _ _ (Ok tt) _ (l, is, of, few) c.taken_sectors.ensures.reads.reads
          (mends.reads l is);
      few_reads = λ m also. (keeping_few S _ _ _ _ (Ok tt) m also _ (l, is, of, few)
          c.taken_sectors.ensures.reads.reads (mends.reads m also)).ok;
    }
