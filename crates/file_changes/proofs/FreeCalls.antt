-- The map is read and written, after a survey.
use Rattle.std.proofs.Common.{◌≡◌, ◌∙◌, Err, Ok, Result, ap, arith, inl, inr, refl, subst, sym}
use Rattle.std.proofs.lemmas.Result.{on_ok_weaker}
use Rattle.std.specs.Prelude.{IfErr, OnErr}
use Rattle.d64_image.proofs.Moments.{counted_once, failed_later, reading, reads_then, then, writing}
use Rattle.d64_image.specs.Calls.{ReadsSector, WritesSector}
use Rattle.d64_image.specs.History.{History, OnlyReads, TellsFailure}
use Rattle.d64_image.specs.Images.{Image, Sector, put, sector}
use Rattle.disk_layout.specs.Directory.{map_place}
use Rattle.disk_layout.specs.Fault.{Holds, TellsFault}
use Rattle.disk_layout.specs.Layout.{Layout}
use Rattle.disk_layout.specs.declared.faults.Fault.{Fault}
use Rattle.disk_layout.specs.declared.faults.Fault.TheVariants.{Device}
use Rattle.file_changes.specs.Frees.{Frees, IsFreed, IsFreedMap, IsLeft}

-- a fault of the device at the map
holds-at : {D : Type 0} (S : History D) (d : D) (img : Image) (r : Result (Unit {0}) Fault)
    → IfErr r (λ e. e ≡ Device map_place) → OnErr r (S.failed_at d map_place) → IfErr r (Holds (S.failed_at d) img)
holds-at S d img (Ok x) told failed = tt
holds-at S d img (Err e) told failed =
    let P : Fault → Type 0 = Holds (S.failed_at d) img in subst P (sym told) failed

tells-at : {D : Type 0} (S : History D) (a c d : D) (r : Result (Unit {0}) Fault) → IfErr r (λ e. e ≡ Device map_place)
    → S.failures c ≡ S.failures a → TellsFailure S c d r → TellsFault S a d r
tells-at S a c d (Ok x) told fine tells = tells ∙ fine
tells-at S a c d (Err e) told fine tells =
    let P : Fault → Type 0 = λ x. TellsFault {T = Unit {0}} S a d (Err x) in
    subst P (sym told) (failed_later S a c d fine tells)

module _ {D : Type 0} (S : History D) (a b c : D) (l m : Layout) (surveyed : OnlyReads S a b 2114)
    (fine : S.failures b ≡ S.failures a) (bytes : Sector) where
  pub map-unread : (fault : Fault)
      → ReadsSector {T = Unit {0}} S b c map_place bytes (Device map_place) (Err fault) → Frees S a c l m (Err fault)
  map-unread fault reads =
      let all = reads_then S a b c 2114 1 2115 (omega arith) surveyed reads.reads in
      record {
        ok = tt;
        err = holds-at S c (S.image a) (Err fault) reads.told reads.failed;
        moments = record { held = reading S a c 2115 _ all (inl refl); writes = omega (arith, all.writes) };
        reads = all.reads;
        failures = tells-at S a b c (Err fault) reads.told fine reads.failures;
      }

  pub map-written : (d : D) (map : Sector) (x : Unit {0}) (r : Result (Unit {0}) Fault)
      → ReadsSector {T = Unit {0}} S b c map_place bytes (Device map_place) (Ok x) → IsFreedMap bytes map (IsLeft l m)
      → WritesSector S c d map_place map (Device map_place) r → Frees S a d l m r
  map-written d map x r reads freed writes = record {
    ok = on_ok_weaker r (λ is. done (S.image d) is) writes.ok;
    err = holds-at S d (S.image a) r writes.told writes.failed;
    moments = record {
      held = then S a c d _ (reading S a c 2115 _ all (inl refl))
          (writing S c d (S.image c) (put (S.image c) map_place map) _ writes.held (inl all.image) (inr (done _ refl)));
      writes = omega (arith, all.writes, counted_once S c d r writes.counted writes.uncounted);
    };
    reads = omega (arith, all.reads, writes.reads);
    failures = tells-at S a c d r writes.told (reads.failures ∙ fine) writes.failures;
  }
    where
      all : OnlyReads S a c 2115
      all = reads_then S a b c 2114 1 2115 (omega arith) surveyed reads.reads

      done : (i : Image) → i ≡ put (S.image c) map_place map → IsFreed (S.image a) l m i
      done i is = record {
        map = map;
        freed = subst (λ y. IsFreedMap y map (IsLeft l m))
            (reads.sector ∙ ap (λ z. sector z map_place) surveyed.image) freed;
        is = is ∙ ap (λ z. put z map_place map) all.image;
      }
