-- What comes of a rebuilding.
use Rattle.std.proofs.Common.{◌≡◌, inl, inr, refl}
use Rattle.std.specs.Prelude.{Err, Ok, OnOk, Result, ⊤}
use Rattle.d64_image.proofs.Moments.{start, weaker}
use Rattle.d64_image.specs.History.{History}
use Rattle.d64_image.specs.Images.{Image}
use Rattle.disk_layout.specs.Layout.{IsSound}
use Rattle.disk_layout.specs.declared.faults.Fault.{Fault}
use Rattle.layout_check.specs.Mended.{TellsDevice}
use Rattle.damaged_files.proofs.lemmas.sides.Frames.{on-the-way, rebuilt-all, rebuilt-none}
use Rattle.damaged_files.specs.sides.Rebuilt.{IsRebuilt, RebuildsSides, RefusesSides}
use Rattle.damaged_files.specs.sides.Taken.{HasThese, IsMix, Takes}

module _ {D : Type 0} (S : History D) where
  -- a sound disk
  pub rebuilds-none : (d : D) (x : Unit {0}) → IsSound (S.image d) → RebuildsSides S d d (Ok x)
  rebuilds-none d x sound = record {
    ok = rebuilt-none (S.image d) sound;
    err = tt;
    moments = start S d _ (inl refl);
    unfailed = refl;
    quiet = λ same. refl;
  }

  -- a disk that takes the rebuilt one's sectors
  pub rebuilds : (b : Image) (c d : D) (r : Result (Unit {0}) Fault) → IsRebuilt (S.image c) b
      → (IsSound (S.image c) → ⊥) → Takes S (S.image c) b (λ p. ⊤) c d r → RebuildsSides S c d r
  rebuilds b c d r re unsound h = record {
    ok = done r h.taken;
    err = told r h.failures;
    moments = weaker S c d (IsMix (S.image c) b) _ (λ i mix. inr (on-the-way (S.image c) b i re mix))
        (h.nears begin).moments;
    unfailed = counted r h.failures;
    quiet = λ sound. absurd (unsound sound);
  }
    where
      begin : IsMix (S.image c) b (S.image c)
      begin p = inl refl

      done : (r : Result (Unit {0}) Fault) → OnOk r (IsMix (S.image c) b (S.image c) → HasThese b (λ p. ⊤) (S.image d))
          → OnOk r (IsRebuilt (S.image c) (S.image d))
      done (Ok x) taken = rebuilt-all (S.image c) b (S.image d) re (λ p. taken begin p tt)
      done (Err f) taken = tt

      counted : (r : Result (Unit {0}) Fault) → TellsDevice S c d r → OnOk r (S.failures d ≡ S.failures c)
      counted (Ok x) tells = tells
      counted (Err f) tells = tt

      told : (r : Result (Unit {0}) Fault) → TellsDevice S c d r → RefusesSides S c d r
      told (Ok x) tells = tt
      told (Err f) tells = inr tells
