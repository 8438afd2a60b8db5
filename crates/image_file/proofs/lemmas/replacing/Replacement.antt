-- An image written over a file, step after step.
use Rattle.std.proofs.Common.{◌≡◌, ◌∙◌, ℕ, List, Ok, Some, Result, Err, inl, inr}
use Rattle.std.specs.Prelude.{◌⊎◌, OnOk}
use Rattle.image_file.specs.Remains.{IsFinished, Remains}
use Rattle.image_file.specs.Replacing.{IsFilling, IsNoDisk, IsReplaced, NowAll}
use Rattle.image_file.specs.Replacing.{IsSpoiled, IsSpoiledImage, IsSpoiling, Since}
use Rattle.image_file.proofs.lemmas.replacing.Sinces.{now_kept, since_change, since_then, since_weaker}
use Rattle.image_file.proofs.lemmas.replacing.Spoiled.{spoiled_is_no_disk}
use Rattle.image_file.proofs.lemmas.replacing.Brought.{on_err}

-- what holds at any rate holds at Ok
on_any : {T E : Type 0} (result : Result T E) (P : Type 0) → P → OnOk result P
on_any (Ok _) P p = p
on_any (Err _) P p = tt

module _ {F : Type 0} (r : Remains F) where
  -- no disk, or the image
  spoiled_so : (image s : List ℕ) → IsSpoiledImage s → IsNoDisk s ⊎ (s ≡ image)
  spoiled_so image s spoiled = inl (λ size sound. spoiled_is_no_disk s (spoiled size) size sound)

  pub not_spoiled_yet : {E : Type 0} (old a : F) (image : List ℕ) (first : Result Unit E) (result : Result Unit E) (e : E)
      → IsSpoiling r old a first → result ≡ Err e → IsReplaced r old a image result
  not_spoiled_yet old a image first result e spoiling is = record {
    remain = since_weaker r old a IsSpoiledImage _ (spoiled_so image) spoiling.since;
    ok = on_err result e _ is;
    held = on_err result e _ is;
  }

  pub not_filled_yet : {E : Type 0} (old a b : F) (image : List ℕ) (first next result : Result Unit E) (e : E)
      → IsSpoiling r old a first → IsFilling r a b image next → result ≡ Err e → IsReplaced r old b image result
  not_filled_yet old a b image first next result e spoiling filling is = record {
    remain = since_then r old a b _ (since_weaker r old a IsSpoiledImage _ (spoiled_so image) spoiling.since)
        (since_weaker r a b IsSpoiled _ (λ s is. spoiled_so image s (λ size. is)) filling.since);
    ok = on_err result e _ is;
    held = on_err result e _ is;
  }

  -- from the first step to the end of the last one
  since_sealed : (old a b c : F) (image : List ℕ) → Since r old a IsSpoiledImage → Since r a b IsSpoiled
      → Since r b c (λ s. s ≡ image) → Since r old c (λ s. IsNoDisk s ⊎ (s ≡ image))
  since_sealed old a b c image spoiling filling sealing =
      since_then r old a c _ (since_weaker r old a IsSpoiledImage _ (spoiled_so image) spoiling)
      (since_then r a b c _ (since_weaker r a b IsSpoiled _ (λ s is. spoiled_so image s (λ size. is)) filling)
      (since_weaker r b c _ _ (λ s is. inr is) sealing))

  pub not_sealed_yet : {E : Type 0} (old a b c : F) (image : List ℕ) (result : Result Unit E) (e : E)
      → Since r old a IsSpoiledImage → Since r a b IsSpoiled → Since r b c (λ s. s ≡ image) → result ≡ Err e
      → IsReplaced r old c image result
  not_sealed_yet old a b c image result e spoiling filling sealing is = record {
    remain = since_sealed old a b c image spoiling filling sealing;
    ok = on_err result e _ is;
    held = on_err result e _ is;
  }

  -- and it got its name
  pub replaced : {E : Type 0} (old a b c d : F) (image : List ℕ) (result : Result Unit E)
      → Since r old a IsSpoiledImage → ((all : List ℕ) → r.held old ≡ Some all → (s : List ℕ) × (r.held a ≡ Some s))
      → Since r a b IsSpoiled → ((all : List ℕ) → r.held a ≡ Some all → (s : List ℕ) × (r.held b ≡ Some s))
      → Since r b c (λ s. s ≡ image) → NowAll r c (λ s. s ≡ image)
      → ((all : List ℕ) → r.held b ≡ Some all → r.held c ≡ Some image) → IsFinished r c d → IsReplaced r old d image result
  replaced old a b c d image result spoiling known filling known_then sealing sealed all named =
      let since = since_change r c d _ _ named.remain (λ from s now never. absurd never) in
      record {
        remain = since_then r old c d _ (since_sealed old a b c image spoiling filling sealing) since;
        ok = on_any result _ (now_kept r c d (λ s. s ≡ image) sealed
            (since_change r c d _ _ named.remain (λ from s now never. absurd never)));
        held = on_any result _ (λ some is. let x = known some is in let y = known_then x.0 x.1 in named.same ∙ all y.0 y.1);
      }
