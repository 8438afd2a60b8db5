-- Sector by sector of the directory.
use Rattle.std.proofs.Common.{Err, List, Ok, ap, arith, length, subst, ◌+◌, ◌∙◌, ◌≡◌}
use Rattle.std.proofs.lemmas.Result.{err_from_is_err_and}
use Rattle.d64_image.proofs.Moments.{at_end}
use Rattle.d64_image.specs.declared.place.Place.{Place}
use Rattle.disk_layout.proofs.lemmas.layouts.Layouts.{IsLayout-one, get-contains}
use Rattle.disk_layout.specs.Layout.{IsLayout, Layout}
use Rattle.layout_check.proofs.lemmas.mending.MapMends.{device_later}
use Rattle.layout_check.proofs.lemmas.mending.SideMends.{sound-device}
use Rattle.layout_check.proofs.lemmas.repairing.MakesRights.{makes_all, makes_first, makes_next, makes_none, makes_start}
use Rattle.layout_check.proofs.lemmas.repairing.RepairReads.{few_all}
use Rattle.layout_check.proofs.lemmas.repairing.RightWrites.{all_moments, counted-of, few-of, first_moments}
use Rattle.layout_check.proofs.lemmas.repairing.RightWrites.{numbers-each, place_listed, place_stays, place_there}
use Rattle.layout_check.proofs.lemmas.repairing.RightWrites.{places_once, step_moments}
use Rattle.layout_check.specs.Mending.{MakesRight}
use Rattle.layout_check.specs.Recounted.{IsRecountOf}
use Rattle.layout_check.proofs.recounting.mend_counts.Goals as goal

pub find_directory-requires : goal.find_directory-requires
find_directory-requires g c = let (l, h, numbers) = c.requires in (l.directory, _, h.directory)

pub loop-place-init : goal.loop-place-init
loop-place-init g c =
    let S = g.D.Sectors.history in
    let found = c.in_ok-find_directory.ensures.ok in
    record {
      moments = first_moments S c.args.disk.now c.find_directory.new.disk c.as_slice-place-items.result.now _
          found.reads;
      right = λ l h. makes_start S l c.args.disk.now c.find_directory.new.disk _ found.reads;
      failures = found.failures;
      reads = omega (arith, found.reads.reads, ap length c.as_slice-place-items.ensures.value);
    }

pub loop-place-preserved : goal.loop-place-preserved
loop-place-preserved g c =
    let S = g.D.Sectors.history in
    let a = c.args.disk.now in
    let b = c.loop-place.disk in
    let d = c.mend_sector.new.disk in
    let items = c.as_slice-place-items.result.now in
    let k = c.loop-place.place-index in
    let q = c.place-item.result in
    let same = λ (l : Layout) (h : IsLayout (S.image a) l). c.as_slice-place-items.ensures.value
    ∙ c.in_ok-find_directory.ensures.directory l.directory _ h.directory in
    let (l, is, numbers) = c.requires in
    let lt = c.loop-place-test.true in
    let e = c.place-item.is in
    let there = place_there S a l is items (same l is) k q lt e in
    let once = places_once S a l is items (same l is) k q lt e in
    let old = c.loop-place.invariant in
    let now = c.in_ok-mend_sector.ensures (S.image a) (place_listed S a l is items (same l is) k q lt e)
    (numbers-each (S.image a) l c.args.owners.now is numbers)
    (place_stays S a l is items (same l is) k q lt e b (old.right l is)) in
    record {
      moments = step_moments S a b d items k q (get-contains items k q there) old.moments now.moments;
      right = λ m h. makes_next S m items k q a b d (Ok tt) there once (old.right m h) (now.right m h);
      failures = now.failures ∙ old.failures;
      reads = omega (arith, old.reads, now.reads);
    }

pub returns-in_err-find_directory : goal.returns-in_err-find_directory
returns-in_err-find_directory g c =
    let S = g.D.Sectors.history in
    let a = c.args.disk.now in
    let b = c.find_directory.new.disk in
    let told = c.in_err-find_directory.ensures.err in
    let p = err_from_is_err_and c.from_residual.result c.from_residual.ensures.1 in
    let (l, is, numbers) = c.requires in
    record {
      counted = rw p.1 tt;
      moments = all_moments S a b l.directory 0 (omega arith)
          (λ m h. ap (λ (x : Layout). x.directory) (IsLayout-one (S.image a) l m is h))
          (first_moments S a b l.directory 683 told.reads);
      right = λ m h. rw p.1 (makes_none S m m.directory a b 683 _ told.reads);
      failures = rw (p.1, p.2) (sound-device S (Unit {0}) a b 683 _ (l, is) told);
      reads = λ m h. record { ok = rw p.1 tt; any = omega (arith, told.reads.reads) };
    }

pub returns-in_err-mend_sector : goal.returns-in_err-mend_sector
returns-in_err-mend_sector g c =
    let S = g.D.Sectors.history in
    let a = c.args.disk.now in
    let b = c.loop-place.disk in
    let d = c.mend_sector.new.disk in
    let items = c.as_slice-place-items.result.now in
    let k = c.loop-place.place-index in
    let q = c.place-item.result in
    let same : (l : Layout) → IsLayout (S.image a) l → items ≡ l.directory =
    λ l h. c.as_slice-place-items.ensures.value ∙ c.in_ok-find_directory.ensures.directory l.directory _ h.directory in
    let (l, is, numbers) = c.requires in
    let lt = c.loop-place-test.true in
    let e = c.place-item.is in
    let there = place_there S a l is items (same l is) k q lt e in
    let once = places_once S a l is items (same l is) k q lt e in
    let old = c.loop-place.invariant in
    let now = c.in_err-mend_sector.ensures (S.image a) (place_listed S a l is items (same l is) k q lt e)
    (numbers-each (S.image a) l c.args.owners.now is numbers)
    (place_stays S a l is items (same l is) k q lt e b (old.right l is)) in
    let p = err_from_is_err_and c.from_residual-in_err-mend_sector.result
    c.from_residual-in_err-mend_sector.ensures.1 in
    record {
      counted = rw p.1 tt;
      moments = all_moments S a d items (k + 1) (omega (arith, lt, few-of (S.image a) items (l, is) same)) same
          (step_moments S a b d items k q (get-contains items k q there) old.moments now.moments);
      right = λ m h. rw (p.1, p.2) (makes_first S m items m.directory (k + 1) a d _ (same m h) (makes_next S m items k q
          a b d (Err _) there once (old.right m h) (now.right m h)));
      failures = rw (p.1, p.2) (device_later S (Unit {0}) a b d (Err _) old.failures now.failures);
      reads = λ m h. record {
        ok = rw p.1 tt;
        any = omega (arith, old.reads, now.reads, lt, ap length (same m h));
      };
    }

pub returns : goal.returns
returns g c =
    let S = g.D.Sectors.history in
    let a = c.args.disk.now in
    let b = c.loop-place.disk in
    let items = c.as_slice-place-items.result.now in
    let k = c.loop-place.place-index in
    let same : (l : Layout) → IsLayout (S.image a) l → items ≡ l.directory =
    λ l h. c.as_slice-place-items.ensures.value ∙ c.in_ok-find_directory.ensures.directory l.directory _ h.directory in
    let (l, is, numbers) = c.requires in
    let old = c.loop-place.invariant in
    let right : (m : Layout) → IsLayout (S.image a) m → MakesRight {T = Unit {0}} S a b m m.directory (Ok tt) =
    λ m h. let P : List Place → Type 0 = λ xs. MakesRight {T = Unit {0}} S a b m xs (Ok tt) in
    subst P (same m h) (makes_all S m items k a b (Ok tt) (omega (arith, c.loop-place-test.false)) (old.right m h)) in
    record {
      counted = counted-of (S.image a) (S.image b) items (S.whole a).size (l, is) same
          (at_end S a b (λ i. IsRecountOf (S.image a) i items) old.moments.held) (λ m h. (right m h).puts.made);
      moments = all_moments S a b items k (omega (arith, c.loop-place.auto, few-of (S.image a) items (l, is) same)) same
          old.moments;
      right = right;
      failures = old.failures;
      reads = λ m h. few_all S a b _ (Ok tt) (omega (arith, old.reads, c.loop-place.auto, ap length (same m h)));
    }

pub bounds-place-items-place-index : goal.bounds-place-items-place-index
bounds-place-items-place-index g c = c.loop-place-test.true

pub offset_bounds-place-items-place-index : goal.offset_bounds-place-items-place-index
offset_bounds-place-items-place-index g c = omega (
  arith,
  c.loop-place-test.true,
  c.as_slice-place-items.ensures.fits,
)
