-- Images whose sector 18/0 may have the tag.
use Rattle.std.proofs.Common.{◌≡◌, ◌≢◌, ◌<◌, ◌∙◌, ℕ, List, [], ap, arith, inr, length, refl, subst, sym, ⊎_elim}
use Rattle.std.proofs.lemmas.Bool.{cases_lt}
use Rattle.std.proofs.lemmas.List.{get_or-set_other, get_or-set_same, get_or_past, set-set, set_comm}
use Rattle.std.specs.Prelude.{slice_index_or, slice_set}
use Rattle.d64_image.specs.Images.{Image}
use Rattle.image_log.specs.life.Folders.{Folder, IsImageWritten, with_sector}
use Rattle.image_log.specs.life.Mixes.{IsTorn}
use Rattle.image_log.specs.life.Tags.{untagged, untagged_image}
use Rattle.image_log.specs.life.Untagged.{untagged_folder}

-- an image has this sector 18/0
pub in_range : (image : Image) (sector : List ℕ) → slice_index_or image 357 [] ≡ sector → length sector ≡ 256 → 357 < length image
in_range image sector is size = ⊎_elim (λ low. low)
    (λ past. absurd (omega (arith, sym size ∙ ap length (sym is ∙ get_or_past image 357 [] past))))
    (cases_lt 357 (length image))

image_set : (image : Image) (sector : List ℕ) → 357 < length image
    → untagged_image (slice_set image 357 sector) ≡ slice_set image 357 (untagged sector)
image_set image sector low =
    ap (λ (s : List ℕ). slice_set (slice_set image 357 sector) 357 (untagged s)) (get_or-set_same image 357 sector [] low)
    ∙ set-set image 357 sector (untagged sector)

image_other : (image : Image) (i : ℕ) (sector : List ℕ) → i ≢ 357
    → untagged_image (slice_set image i sector) ≡ slice_set (untagged_image image) i sector
image_other image i sector not =
    ap (λ (s : List ℕ). slice_set (slice_set image i sector) 357 (untagged s))
    (get_or-set_other image i 357 sector [] (λ same. not (sym same)))
    ∙ set_comm image i 357 sector (untagged (slice_index_or image 357 [])) not

with_image : Image → Folder → Folder
with_image image s = record { image = image; log = s.log; making = s.making }

-- another sector is written
pub other_set : (i : ℕ) (sector : List ℕ) → i ≢ 357 → (s : Folder)
    → untagged_folder (with_sector i sector s) ≡ with_sector i sector (untagged_folder s)
unfolding with_image
other_set i sector not s = ap (λ (image : Image). with_image image s) (image_other s.image i sector not)

pub other_step : (i : ℕ) (sector : List ℕ) → i ≢ 357 → (from s : Folder) → IsImageWritten i sector from s
    → IsImageWritten i sector (untagged_folder from) (untagged_folder s)
other_step i sector not from s written = record {
  log = written.log;
  making = written.making;
  sector = written.sector;
  torn = subst (λ (old : List ℕ). IsTorn old sector written.sector)
      (sym (get_or-set_other from.image 357 i (untagged (slice_index_or from.image 357 [])) [] not)) written.torn;
  image = ap untagged_image written.image ∙ image_other from.image i written.sector not;
}

module _ (before new : List ℕ) (size : length before ≡ 256) where
  module _ (sector : List ℕ) (is : untagged new ≡ sector) where
    -- 18/0 is written, with the tag if it has that
    pub tagged_set : (s : Folder) → slice_index_or s.image 357 [] ≡ before
        → untagged_folder (with_sector 357 new s) ≡ with_sector 357 sector (untagged_folder s)
    unfolding with_image
    tagged_set s there = ap (λ (image : Image). with_image image s)
        (image_set s.image new (in_range s.image before there size) ∙ ap (slice_set s.image 357) is
        ∙ sym (set-set s.image 357 (untagged (slice_index_or s.image 357 [])) sector))

    pub tagged_step : ((torn : List ℕ) → IsTorn before new torn → IsTorn (untagged before) sector (untagged torn))
        → (from s : Folder) → slice_index_or from.image 357 [] ≡ before → IsImageWritten 357 new from s
        → IsImageWritten 357 sector (untagged_folder from) (untagged_folder s)
    tagged_step torn from s there written =
        let low = in_range from.image before there size in
        record {
          log = written.log;
          making = written.making;
          sector = untagged written.sector;
          torn = subst (λ (old : List ℕ). IsTorn old sector (untagged written.sector))
              (ap untagged (sym there) ∙ sym (get_or-set_same from.image 357 (untagged (slice_index_or from.image 357 [])) [] low))
              (torn written.sector (subst (λ (old : List ℕ). IsTorn old new written.sector) there written.torn));
          image = ap untagged_image written.image ∙ image_set from.image written.sector low
              ∙ sym (set-set from.image 357 (untagged (slice_index_or from.image 357 [])) (untagged written.sector));
        }

  -- the tag alone is
  module _ (same : (torn : List ℕ) → IsTorn before new torn → untagged torn ≡ untagged before) where
    pub same_step : (from s : Folder) → slice_index_or from.image 357 [] ≡ before → IsImageWritten 357 new from s
        → untagged_folder s ≡ untagged_folder from
    unfolding with_image
    same_step from s there written =
        let image = ap untagged_image written.image
        ∙ image_set from.image written.sector (in_range from.image before there size)
        ∙ ap (slice_set from.image 357)
        (same written.sector (subst (λ (old : List ℕ). IsTorn old new written.sector) there written.torn)
        ∙ ap untagged (sym there)) in
        ap (λ (i : Image). record { image = i; log = s.log; making = s.making }) image
        ∙ ap (λ l. record { image = untagged_image from.image; log = l; making = s.making }) written.log
        ∙ ap (λ m. record { image = untagged_image from.image; log = from.log; making = m }) written.making

    pub same_set : length new ≡ 256 → (s : Folder) → slice_index_or s.image 357 [] ≡ before
        → untagged_folder (with_sector 357 new s) ≡ untagged_folder s
    unfolding with_image
    same_set size2 s there = ap (λ (image : Image). with_image image s)
        (image_set s.image new (in_range s.image before there size)
        ∙ ap (slice_set s.image 357) (same new (record { size = λ is. sym is; each = λ j. inr refl }) ∙ ap untagged (sym there)))
