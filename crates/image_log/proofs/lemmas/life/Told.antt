-- IMAGE has its tag once it is put, while other sectors are written, and until it is taken off.
use Rattle.std.proofs.Common.{◌≡◌, ◌≢◌, ◌∙◌, ℕ, List, [], ap, arith, length, slice_index, subst, sym}
use Rattle.std.proofs.lemmas.List.{get_or-drop, get_or-set_other, get_or-set_same, get_or-take}
use Rattle.std.specs.Prelude.{drop, slice_index_or}
use Rattle.image_log.specs.Blocks.{part}
use Rattle.image_log.specs.life.Folders.{Folder, with_sector}
use Rattle.image_log.specs.life.Tags.{HasTag, IsTagged, tag, untagged}
use Rattle.image_log.proofs.lemmas.life.Tagged.{off_end, room_as}
use Rattle.image_log.proofs.lemmas.life.TaggedImages.{in_range}

pub put_on : (sector : List ℕ) → part sector 248 8 ≡ tag → IsTagged sector
unfolding part
put_on sector is = (
  room_as sector is,
  λ none.
      let first : slice_index sector 248 ≡ 76 = sym (get_or-drop 248 sector 0 0)
      ∙ sym (get_or-take 8 (drop 248 sector) 0 0 (omega arith)) ∙ ap (λ (l : List ℕ). slice_index l 0) is in
      absurd (omega (arith, sym (none 0 (omega arith)) ∙ first)),
)

pub not_on : (sector : List ℕ) → IsTagged sector → IsTagged (untagged sector) → ⊥
not_on sector is again = again.1 (off_end sector is.0)

-- 18/0 is written
pub written : (P : List ℕ → Type 0) (before sector : List ℕ) (s : Folder) → slice_index_or s.image 357 [] ≡ before → length before ≡ 256
    → P sector → P (slice_index_or (with_sector 357 sector s).image 357 [])
written P before sector s is size there =
    subst P (sym (get_or-set_same s.image 357 sector [] (in_range s.image before is size))) there

-- another one is
pub other_written : (index : ℕ) (sector : List ℕ) (s : Folder) → index ≢ 357 → HasTag s.image → HasTag (with_sector index sector s).image
other_written index sector s not there =
    subst IsTagged (sym (get_or-set_other s.image index 357 sector [] (λ same. not (sym same)))) there
