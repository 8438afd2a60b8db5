-- What stands while 18/1 is written, last of all.
use Rattle.std.proofs.Common.{◌≡◌, ◌≤◌, ◌++◌, ◌∙◌, ℕ, List, Some, Result, Err, ap, arith, sym}
use Rattle.std.proofs.Common.{length, take, drop, length-append, length-take, length-drop}
use Rattle.std.specs.Prelude.{option_map}
use Rattle.std.proofs.lemmas.Result.{on_ok_weaker}
use Rattle.image_file.specs.Remains.{Changes, IsBroughtWhole, IsPutInPart}
use Rattle.image_file.specs.Remains.{Remains, put_in}
use Rattle.image_file.specs.Replacing.{AllAreFilled, IsFilled, IsSealing}
use Rattle.image_file.specs.Replacing.{Since}
use Rattle.image_file.proofs.lemmas.replacing.Filled.{in_three, sealed_up}
use Rattle.image_file.proofs.lemmas.replacing.Sinces.{since_change, since_then}
use Rattle.image_file.proofs.lemmas.replacing.Brought.{on_ok, on_err, since_brought, brought_of}
use Rattle.image_file.proofs.lemmas.replacing.Spoiling.{sector_at_directory}

module _ {F : Type 0} (r : Remains F) where
  -- the last sector makes it the image
  is_sealed : (image bytes all : List ℕ) → length image ≡ 174848 → bytes ≡ take 256 (drop 91648 image)
      → IsFilled image all → put_in all 91648 bytes ≡ image
  is_sealed image bytes all size are filled =
      let count : length bytes ≡ 256 =
      ap length are ∙ omega (arith, size, length-take 256 (drop 91648 image), length-drop 91648 image) in
      ap (λ (xs : List ℕ). put_in xs 91648 bytes) filled.is
      ∙ sealed_up (take 91648 image) filled.some (drop 91904 image) bytes 91648 (omega (arith, size, length-take 91648 image))
      (omega (arith, count, filled.size))
      ∙ ap (λ (xs : List ℕ). take 91648 image ++ xs ++ drop 91904 image) are
      ∙ in_three image 91648 256 91904 (omega arith)

  length_filled : (image all : List ℕ) → length image ≡ 174848 → IsFilled image all → 91904 ≤ length all
  length_filled image all size filled =
      let whole : length all ≡ _ = ap length filled.is in
      omega (
        arith,
        size,
        whole,
        filled.size,
        length-take 91648 image,
        length-drop 91904 image,
        length-append (take 91648 image ++ filled.some) (drop 91904 image),
        length-append (take 91648 image) filled.some,
      )

  since_sealed : (old a : F) (image bytes : List ℕ) → length image ≡ 174848 → bytes ≡ take 256 (drop 91648 image)
      → length bytes ≡ 256 → AllAreFilled r old image → Changes r old a (IsPutInPart 91648 bytes)
      → Since r old a (λ s. s ≡ image)
  since_sealed old a image bytes size are count now remain = since_change r old a _ _ remain (λ from s is part.
      part.sector (sector_at_directory bytes count) (length_filled image from size (now.0 from is))
      ∙ is_sealed image bytes from size are (now.0 from is))

  pub not_sealed : {E : Type 0} (old a : F) (image bytes : List ℕ) (result : Result Unit E) (e : E)
      → length image ≡ 174848 → bytes ≡ take 256 (drop 91648 image) → length bytes ≡ 256 → AllAreFilled r old image
      → Changes r old a (IsPutInPart 91648 bytes) → result ≡ Err e → IsSealing r old a image result
  not_sealed old a image bytes result e size are count now remain is = record {
    since = since_sealed old a image bytes size are count now remain;
    ok = on_err result e _ is;
    held = on_err result e _ is;
  }

  pub sealing : {E : Type 0} (old a b : F) (image bytes : List ℕ) (result : Result Unit E)
      → length image ≡ 174848 → bytes ≡ take 256 (drop 91648 image) → length bytes ≡ 256 → AllAreFilled r old image
      → r.held a ≡ option_map (λ all. put_in all 91648 bytes) (r.held old)
      → Changes r old a (IsPutInPart 91648 bytes) → IsBroughtWhole r a b result → IsSealing r old b image result
  sealing old a b image bytes result size are count now held remain brought =
      let since = since_sealed old a image bytes size are count now remain in
      record {
        since = since_then r old a b (λ s. s ≡ image) since (since_brought r a b (λ s. s ≡ image) result brought);
        ok = on_ok_weaker result (λ all s is.
            let z = brought_of r old a b _ result held brought s (all s is) in
            sym z.2 ∙ is_sealed image bytes z.0 size are (now.1 z.0 z.1)) brought.ok;
        held = on_ok result _ (λ all is.
            brought.same ∙ held ∙ ap (option_map (λ all. put_in all 91648 bytes)) is
            ∙ ap Some (is_sealed image bytes all size are (now.1 all is)));
      }
