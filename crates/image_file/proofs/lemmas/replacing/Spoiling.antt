-- What stands while 18/1 is spoiled.
use Rattle.std.proofs.Common.{◌≡◌, ◌≤◌, ◌<◌, ◌∙◌, ℕ, List, Result, Err, ap, arith, sym}
use Rattle.std.proofs.Common.{length, ⊎_elim}
use Rattle.std.specs.Prelude.{option_map, slice_index}
use Rattle.std.proofs.lemmas.Bool.{cases_lt}
use Rattle.std.proofs.lemmas.Result.{on_ok_weaker}
use Rattle.image_file.specs.Remains.{Changes, IsBroughtWhole, IsPutInPart, IsSectorAt}
use Rattle.image_file.specs.Remains.{Remains, put_in}
use Rattle.image_file.specs.Replacing.{IsSpoiledImage, IsSpoiling}
use Rattle.image_file.proofs.lemmas.replacing.Indices.{index_within, length_put_in}
use Rattle.image_file.proofs.lemmas.replacing.Sinces.{since_change, since_then}
use Rattle.image_file.proofs.lemmas.replacing.Brought.{on_ok, on_err, since_brought, brought_of}

pub sector_at_directory : (bytes : List ℕ) → length bytes ≡ 256 → IsSectorAt 91648 bytes
sector_at_directory bytes size = record { size = size; index = 358; at = omega arith }

-- 18/1 was spoiled, if there was one
spoiled_image : (bytes from s : List ℕ) → length bytes ≡ 256 → slice_index bytes 0 ≡ 255 → IsPutInPart 91648 bytes from s
    → IsSpoiledImage s
spoiled_image bytes from s size first part whole = ⊎_elim
    (λ (short : length from < 91904).
    absurd (omega (arith, short, whole, size, part.mixed.size, length_put_in from 91648 bytes)))
    (λ (fits : 91904 ≤ length from).
    ap (λ (xs : List ℕ). slice_index xs 91648) (part.sector (sector_at_directory bytes size) fits)
    ∙ index_within from 91648 bytes 0 (omega (arith, size)) ∙ first)
    (cases_lt (length from) 91904)

module _ {F : Type 0} (r : Remains F) where
  pub spoiling : {E : Type 0} (old a b : F) (bytes : List ℕ) (result : Result Unit E) → length bytes ≡ 256
      → slice_index bytes 0 ≡ 255 → r.held a ≡ option_map (λ all. put_in all 91648 bytes) (r.held old)
      → Changes r old a (IsPutInPart 91648 bytes) → IsBroughtWhole r a b result → IsSpoiling r old b result
  spoiling old a b bytes result size first held remain brought = record {
    since = since_then r old a b IsSpoiledImage
        (since_change r old a _ _ remain (λ from s is part. spoiled_image bytes from s size first part))
        (since_brought r a b IsSpoiledImage result brought);
    ok = on_ok_weaker result (λ all s is.
        let z = brought_of r old a b _ result held brought s (all s is) in
        ap (λ (xs : List ℕ). slice_index xs 91648) (sym z.2)
        ∙ index_within z.0 91648 bytes 0 (omega (arith, size)) ∙ first) brought.ok;
    held = on_ok result _ (λ all is.
        (put_in all 91648 bytes, brought.same ∙ held ∙ ap (option_map (λ all. put_in all 91648 bytes)) is));
  }

  pub not_spoiled : {E : Type 0} (old a : F) (bytes : List ℕ) (result : Result Unit E) (e : E) → length bytes ≡ 256
      → slice_index bytes 0 ≡ 255 → Changes r old a (IsPutInPart 91648 bytes) → result ≡ Err e → IsSpoiling r old a result
  not_spoiled old a bytes result e size first remain is = record {
    since = since_change r old a _ _ remain (λ from s is part. spoiled_image bytes from s size first part);
    ok = on_err result e _ is;
    held = on_err result e _ is;
  }
