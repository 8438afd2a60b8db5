-- Bytes that were written whole, in part or not at all.
use Rattle.std.proofs.Common.{◌≡◌, ◌∙◌, ◌⊎◌, ℕ, List, Some, ap, inl, inr, sym, take}
use Rattle.d64_image.specs.Offsets.{overwritten}
use Rattle.image_file.specs.Durable.{IsOverwritten}
use Rattle.image_file.proofs.lemmas.Unwritten.{overwritten_none}

-- at an error
pub part_written : (old new : List ℕ) (n : ℕ) (bytes part : List ℕ) (count : ℕ) → part ≡ take count bytes
    → (Some new ≡ Some old) ⊎ (Some new ≡ Some (overwritten old n part))
    → (k : ℕ) × IsOverwritten (Some old) (Some new) n (take k bytes)
part_written old new n bytes part count is (inl same) = (0, λ le. same ∙ ap Some (sym (overwritten_none old n)))
part_written old new n bytes part count is (inr written) =
    (count, λ le. written ∙ ap (λ xs. Some (overwritten old n xs)) is)
