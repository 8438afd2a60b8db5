-- A sector that is read, and then written with bytes over its own.
use Rattle.std.proofs.Common.{ℕ, ◌≡◌, List, Result, OnErr, OnOk, Ok, Err, inl, refl, arith, ap, subst, true, ◌∙◌}
use Rattle.d64_image.proofs.Moments.{counted_once, reading, then}
use Rattle.d64_image.proofs.Told.{told_after}
use Rattle.d64_image.specs.Calls.{WritesSector}
use Rattle.d64_image.specs.History.{History, HeldOnly, OldOr, OnlyReads}
use Rattle.d64_image.specs.Images.{Image, Sector, put, sector}
use Rattle.d64_image.specs.Offsets.{overwritten}
use Rattle.d64_image.specs.declared.faults.DeviceFault.{DeviceFault}
use Rattle.d64_image.specs.declared.place.Place.{Place}
use Rattle.file_changes.specs.Patches.{PatchesSector, patched}

module _ {D : Type 0} (S : History D) (a b c : D) (p : Place) (at : ℕ) (new had : List ℕ) (bytes : Sector)
    (reads : OnlyReads S a b 1) (read : had ≡ sector (S.image a) p) (fine : S.failures b ≡ S.failures a)
    (over : bytes ≡ overwritten had at new) where
  same : put (S.image b) p bytes ≡ patched (S.image a) p at new
  same = ap (λ (i : Image). put i p bytes) reads.image
      ∙ ap (put (S.image a) p) (over ∙ ap (λ (x : Sector). overwritten x at new) read)

  pub patched-after : (r : Result (Unit {0}) DeviceFault) → {fault : DeviceFault} → WritesSector S b c p bytes fault r
      → PatchesSector S a c p at new r
  patched-after r {fault} w = record {
    ok = ok r w.ok;
    held = then S a b c _ (reading S a b 1 _ reads (inl refl)) (subst P same (subst Q reads.image w.held));
    writes = omega (arith, counted_once S b c r w.counted w.uncounted, reads.writes);
    uncounted = uncounted r w.uncounted;
    reads = omega (arith, w.reads, reads.reads);
    failures = told_after S (λ (_ : DeviceFault). true) a b c r fine w.failures;
  }
    where
      Q : Image → Type 0
      Q i = HeldOnly S b c (OldOr i (put (S.image b) p bytes))

      P : Image → Type 0
      P i = HeldOnly S b c (OldOr (S.image a) i)

      ok : (r : Result (Unit {0}) DeviceFault) → OnOk r (S.image c ≡ put (S.image b) p bytes)
          → OnOk r (S.image c ≡ patched (S.image a) p at new)
      ok (Ok x) e = e ∙ same
      ok (Err x) e = tt

      uncounted : (r : Result (Unit {0}) DeviceFault) → OnErr r (S.writes c ≡ S.writes b)
          → OnErr r (S.writes c ≡ S.writes a)
      uncounted (Ok x) e = tt
      uncounted (Err x) e = e ∙ reads.writes
