-- What is kept of a disk in the bytes of a file, where a sector of it was written there.
use Rattle.std.proofs.Common.{◌≡◌, ◌≤◌, ◌⊎◌, ◌∙◌, ℕ, List, Option, Some, None}
use Rattle.std.proofs.Common.{ap, inl, inr, length, refl, sym, ⊎_elim}
use Rattle.std.specs.Prelude.{◌<◌, slice_index}
use Rattle.d64_image.specs.Images.{Image, IsImage, IsSector, put}
use Rattle.d64_image.specs.Keeps.{put_kept}
use Rattle.d64_image.specs.Memory.{bytes_of, sectors_in}
use Rattle.d64_image.specs.Offsets.{offset_of, overwritten}
use Rattle.d64_image.specs.declared.place.Place.{Place}
use Rattle.d64_image.specs.Chunks.{chunks_are_bytes, chunks_are_sectors, length-bytes_of, sectors_in-bytes_of}
use Rattle.d64_image.proofs.Images.{put_is_image}
use Rattle.d64_image.proofs.Offsets.{bytes_of-put}
use Rattle.image_file.specs.Lasting.{Lasting, StaysOr, overwritten_in}
use Rattle.image_file.specs.LastingImages.{
  image_of,
  image_of-size,
  sectors_are_image,
  stayed_image,
}

pub image_of-overwritten : (o : Option (List ℕ)) (p : Place) (bytes : List ℕ) → IsSector bytes
    → ((all : List ℕ) → o ≡ Some all → length all ≡ 174848)
    → ((all : List ℕ) → o ≡ Some all → (i : ℕ) → slice_index all i < 256)
    → image_of (overwritten_in o (offset_of p) bytes) ≡ put_kept (image_of o) p bytes
image_of-overwritten None p bytes new sized small = refl
image_of-overwritten (Some all) p bytes new sized small =
    let size : length all ≡ 174848 = sized all refl in
    let img : Image = sectors_in all in
    let is : IsImage img = sectors_are_image all size (small all refl) in
    let after : IsImage (put img p bytes) = put_is_image img p bytes is new in
    let same : bytes_of img ≡ all =
    ap bytes_of (sym (chunks_are_sectors all 683 refl)) ∙ chunks_are_bytes all 683 refl size in
    let e : overwritten all (offset_of p) bytes ≡ bytes_of (put img p bytes) =
    sym (bytes_of-put img p bytes is new.size ∙ ap (λ xs. overwritten xs (offset_of p) bytes) same) in
    image_of-size (overwritten all (offset_of p) bytes) (ap length e ∙ length-bytes_of (put img p bytes) after)
    ∙ ap Some (ap sectors_in e ∙ sectors_in-bytes_of (put img p bytes) after)
    ∙ sym (ap (λ o. put_kept o p bytes) (image_of-size all size))

module _ {F : Type 0} (L : Lasting F) (old new : F) (p : Place) (bytes : List ℕ) (is : IsSector bytes)
    (sized : (all : List ℕ) → L.bytes old ≡ Some all → length all ≡ 174848) where
  abbrev next : Option (List ℕ)
  next = overwritten_in (L.bytes old) (offset_of p) bytes

  next_image : image_of next ≡ put_kept (image_of (L.bytes old)) p bytes
  next_image = image_of-overwritten (L.bytes old) p bytes is sized (L.small old)

  pub kept_ok : L.bytes new ≡ next → image_of (L.bytes new) ≡ put_kept (image_of (L.bytes old)) p bytes
  kept_ok e = ap image_of e ∙ next_image

  pub kept_either : StaysOr L old new next → (image_of (L.bytes new) ≡ image_of (L.bytes old))
      ⊎ (image_of (L.bytes new) ≡ put_kept (image_of (L.bytes old)) p bytes)
  kept_either x = ⊎_elim (λ e. inl (ap image_of e)) (λ e. inr (ap image_of e ∙ next_image)) x.now

  -- the bytes of the end are those of the start, or the next ones
  among : StaysOr L old new next → (all : List ℕ) (c : Image) → image_of (Some all) ≡ Some c
      → (L.bytes old ≡ Some all) ⊎ (L.bytes new ≡ Some all)
      → (image_of (L.bytes old) ≡ Some c) ⊎ (put_kept (image_of (L.bytes old)) p bytes ≡ Some c)
  among x all c e h = ⊎_elim (λ s. inl (ap image_of s ∙ e))
      (λ s. ⊎_elim (λ n. inl (ap image_of (sym n ∙ s) ∙ e)) (λ n. inr (sym next_image ∙ ap image_of (sym n ∙ s) ∙ e)) x.now)
      h

  -- and so are the images
  at_ends : (all : List ℕ) (c : Image) → image_of (Some all) ≡ Some c
      → (L.bytes old ≡ Some all) ⊎ (L.bytes new ≡ Some all)
      → (image_of (L.bytes old) ≡ Some c) ⊎ (image_of (L.bytes new) ≡ Some c)
  at_ends all c e h = ⊎_elim (λ s. inl (ap image_of s ∙ e)) (λ s. inr (ap image_of s ∙ e)) h

  pub each_at_ends : StaysOr L old new next → (c : Image) → stayed_image L new (L.moment old) c
      → (image_of (L.bytes old) ≡ Some c) ⊎ (image_of (L.bytes new) ≡ Some c)
  each_at_ends x c h = at_ends h.0 c h.2 (x.each h.0 h.1)

  pub before_at_ends : StaysOr L old new next → (t : ℕ) (c : Image) → t ≤ L.moment old → stayed_image L new t c
      → stayed_image L old t c ⊎ ((image_of (L.bytes old) ≡ Some c) ⊎ (image_of (L.bytes new) ≡ Some c))
  before_at_ends x t c le h =
      ⊎_elim (λ s. inl (h.0, s, h.2)) (λ s. inr (at_ends h.0 c h.2 s)) (x.before t h.0 le h.1)

  pub each_image : StaysOr L old new next → (c : Image) → stayed_image L new (L.moment old) c
      → (image_of (L.bytes old) ≡ Some c) ⊎ (put_kept (image_of (L.bytes old)) p bytes ≡ Some c)
  each_image x c h = among x h.0 c h.2 (x.each h.0 h.1)

  pub before_image : StaysOr L old new next → (t : ℕ) (c : Image) → t ≤ L.moment old → stayed_image L new t c
      → stayed_image L old t c
      ⊎ ((image_of (L.bytes old) ≡ Some c) ⊎ (put_kept (image_of (L.bytes old)) p bytes ≡ Some c))
  before_image x t c le h =
      ⊎_elim (λ s. inl (h.0, s, h.2)) (λ s. inr (among x h.0 c h.2 s)) (x.before t h.0 le h.1)
