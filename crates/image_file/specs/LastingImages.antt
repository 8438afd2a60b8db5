-- The image that a file's bytes are, of one that says which stay or which it holds. Our own.
use Rattle.std.specs.Prelude.{
  ◌≡◌,
  ◌<◌,
  ◌≤◌,
  ◌==◌,
  Bool,
  true,
  false,
  ℕ,
  List,
  None,
  Option,
  Some,
  length,
  slice_index,
  if◌then◌else◌,
}
use Rattle.std.proofs.Common.{◌∙◌, ap, refl, subst, sym}
use Rattle.std.proofs.lemmas.Bool.{eq-eqb, eqb-true}
use Rattle.d64_image.specs.Images.{Image, IsImage}
use Rattle.d64_image.specs.Keeps.{kept_or, none_kept}
use Rattle.d64_image.specs.Memory.{sectors_in}
use Rattle.d64_image.specs.Chunks.{chunks_are_image, chunks_are_sectors}
use Rattle.image_file.specs.Lasting.{Lasting}

-- the image that bytes are, if they are known and as many as an image has
abbrev pub image_of : Option (List ℕ) → Option Image
image_of None = None
image_of (Some all) = if length all == 174848 then Some (sectors_in all) else None

-- these bytes are that image
pub record AreImage (bytes : Option (List ℕ)) (c : Image) : Type 0 where
  pub all : List ℕ
  pub are : bytes ≡ Some all
  pub size : length all ≡ 174848
  pub image : sectors_in all ≡ c

are_image_if : (b : Bool) (all : List ℕ) (c : Image) → (b ≡ true → length all ≡ 174848)
    → (if b then Some (sectors_in all) else None) ≡ Some c → AreImage (Some all) c
are_image_if true all c size e = record { all = all; are = refl; size = size refl; image = ap (λ o. kept_or o c) e }
are_image_if false all c size e = none_kept e

pub are_image : (bytes : Option (List ℕ)) (c : Image) → image_of bytes ≡ Some c → AreImage bytes c
are_image None c e = none_kept e
are_image (Some all) c e = are_image_if (length all == 174848) all c (eqb-true (length all) 174848) e

pub image_of-size : (all : List ℕ) → length all ≡ 174848 → image_of (Some all) ≡ Some (sectors_in all)
image_of-size all size = ap (λ b. if b then Some (sectors_in all) else None) (eq-eqb (length all) 174848 size)

pub sectors_are_image : (all : List ℕ) → length all ≡ 174848 → ((i : ℕ) → slice_index all i < 256)
    → IsImage (sectors_in all)
sectors_are_image all size small =
    subst IsImage (chunks_are_sectors all 683 refl) (chunks_are_image all 683 refl size small)

-- this image was among those that stayed
abbrev pub stayed_image : {F : Type 0} → Lasting F → F → ℕ → Image → Type 0
stayed_image L file t c = (all : List ℕ) × L.stayed file t all × (image_of (Some all) ≡ Some c)

module _ {F : Type 0} (L : Lasting F) where
  pub whole_image : (f : F) (c : Image) → image_of (L.bytes f) ≡ Some c → IsImage c
  whole_image f c e =
      let x = are_image (L.bytes f) c e in
      subst IsImage x.image (sectors_are_image x.all x.size (L.small f x.all x.are))

  pub now_image : (f : F) (t : ℕ) → t ≤ L.moment f → (c : Image) → image_of (L.bytes f) ≡ Some c
      → stayed_image L f t c
  now_image f t le c e =
      let x = are_image (L.bytes f) c e in
      (x.all, L.now f t le x.all x.are, ap image_of (sym x.are) ∙ e)

  pub only_now_image : (f : F) (c : Image) → stayed_image L f (L.moment f) c → image_of (L.bytes f) ≡ Some c
  only_now_image f c h = ap image_of (L.only_now f h.0 h.1) ∙ h.2
