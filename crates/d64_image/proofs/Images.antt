-- What a sector of an image is after a write.
use Rattle.std.proofs.Common.{ℕ, ◌<◌, ◌≡◌, ◌≢◌, [], ◌∙◌, sym, subst, ⊎_elim, length, get_or, set, arith}
use Rattle.std.proofs.lemmas.List.{length-set, get_or-set_same, get_or-set_other, set-set, set-get_or}
use Rattle.std.proofs.lemmas.Bool.{cases_eq}
use Rattle.std.proofs.lemmas.Grind.{get_or-set_at}
use Rattle.d64_image.specs.declared.place.Place.{Place}
use Rattle.d64_image.specs.Places.{index_of}
use Rattle.d64_image.specs.Images.{Sector, Image, IsSector, IsImage, sector, put}
use Rattle.d64_image.proofs.Places.{index_below, other_index}

pub sector-put_same : (img : Image) (p : Place) (bytes : Sector) → length img ≡ 683 → sector (put img p bytes) p ≡ bytes
unfolding sector put
sector-put_same img p bytes size = get_or-set_same img (index_of p) bytes [] (omega (arith, index_below p, size))

-- p is the place that was written
pub sector-put_other : (img : Image) (p q : Place) (bytes : Sector) → p ≢ q → sector (put img p bytes) q ≡ sector img q
unfolding sector put
sector-put_other img p q bytes other = get_or-set_other img (index_of p) (index_of q) bytes []
    (λ e. other_index p q other (sym e))

pub length-put : (img : Image) (p : Place) (bytes : Sector) → length (put img p bytes) ≡ length img
unfolding put
length-put img p bytes = length-set img (index_of p) bytes

pub put-put : (img : Image) (p : Place) (a b : Sector) → put (put img p a) p b ≡ put img p b
unfolding put
put-put img p a b = set-set img (index_of p) a b

pub put-sector : (img : Image) (p : Place) → put img p (sector img p) ≡ img
unfolding sector put
put-sector img p = set-get_or img (index_of p) []

pub is_sector : (img : Image) (p : Place) → IsImage img → IsSector (sector img p)
unfolding sector
is_sector img p is = is.each (index_of p) (index_below p)

-- one of the places of an image of n sectors, after a write
set_each : (img : Image) (n i k : ℕ) (bytes : Sector) → length img ≡ n → i < n → k < n → IsSector (get_or img k [])
    → IsSector bytes → IsSector (get_or (set img i bytes) k [])
set_each img n i k bytes size i_below k_below old new = ⊎_elim
    (λ (e : k ≡ i). subst IsSector (sym (get_or-set_at img i k bytes [] e (omega (arith, i_below, size)))) new)
    (λ (ne : k ≢ i). subst IsSector (sym (get_or-set_other img i k bytes [] ne)) old)
    (cases_eq k i)

pub put_is_image : (img : Image) (p : Place) (bytes : Sector) → IsImage img → IsSector bytes → IsImage (put img p bytes)
unfolding put
put_is_image img p bytes is new = record {
  size = length-set img (index_of p) bytes ∙ is.size;
  each = λ i below. set_each img 683 (index_of p) i bytes is.size (index_below p) below (is.each i below) new;
}
