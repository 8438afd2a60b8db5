-- A sector that is put into an image replaces 256 of its bytes, at 256 times its index.
use Rattle.std.proofs.Common.{
  ℕ,
  zero,
  suc,
  ◌+◌,
  ◌*◌,
  ◌<◌,
  ◌≡◌,
  ◌++◌,
  List,
  [],
  ◌∷◌,
  ◌∙◌,
  ap,
  ap₂,
  sym,
  length,
  get_or,
  take,
  drop,
  set,
  append_assoc,
  drop_at,
  mul-suc,
  mul-zero,
  zero-lt-suc,
  suc-le-suc,
  le_of_suc-le-suc,
  arith,
}
use Rattle.std.proofs.Math.Seq.{take-append-add, drop-append-add}
use Rattle.d64_image.specs.declared.place.Place.{Place}
use Rattle.d64_image.specs.Images.{Image, Sector, IsImage, put}
use Rattle.d64_image.specs.Memory.{bytes_of}
use Rattle.d64_image.specs.Offsets.{offset_of, overwritten}
use Rattle.d64_image.specs.Places.{index_of}
use Rattle.d64_image.proofs.Places.{index_below}

-- the bytes behind a first chunk x
overwritten_behind : (x bs : List ℕ) (n : ℕ) (new : List ℕ)
    → x ++ overwritten bs n new ≡ overwritten (x ++ bs) (length x + n) new
overwritten_behind x bs n new =
    let last : List ℕ = drop (n + length new) bs in
    sym (append_assoc x (take n bs ++ new) last)
    ∙ ap (λ (a : List ℕ). a ++ last) (sym (append_assoc x (take n bs) new))
    ∙ ap₂ (λ (a b : List ℕ). a ++ new ++ b)
    (sym (take-append-add x bs n))
    (sym (ap (λ (m : ℕ). drop m (x ++ bs)) (omega arith) ∙ drop-append-add x bs (n + length new)))

-- over chunks of k bytes each, one of which is replaced
set_joined : (k : ℕ) (img : Image) (i : ℕ) (new : List ℕ) → ((j : ℕ) → j < length img → length (get_or img j []) ≡ k)
    → length new ≡ k → i < length img
    → bytes_of (set img i new) ≡ overwritten (bytes_of img) (k * i) new
set_joined k [] i new sizes size lt = absurd (omega (arith, lt))
set_joined k (x ∷ xs) zero new sizes size lt =
    let here : length x ≡ k = sizes 0 (zero-lt-suc (length xs)) in
    ap₂ (λ (a b : List ℕ). a ++ new ++ b)
    (ap (λ (m : ℕ). take m (x ++ bytes_of xs)) (sym (mul-zero k)))
    (sym (drop_at x (bytes_of xs) (k * 0 + length new) (omega (arith, here, size, mul-zero k))))
set_joined k (x ∷ xs) (suc i) new sizes size lt =
    let here : length x ≡ k = sizes 0 (zero-lt-suc (length xs)) in
    ap (λ (rest : List ℕ). x ++ rest) (set_joined k xs i new (λ j h. sizes (suc j) (suc-le-suc h)) size
    (le_of_suc-le-suc lt))
    ∙ overwritten_behind x (bytes_of xs) (k * i) new
    ∙ ap (λ (m : ℕ). overwritten (x ++ bytes_of xs) m new) (omega (arith, here, mul-suc k i))

pub bytes_of-put : (img : Image) (p : Place) (bytes : Sector) → IsImage img → length bytes ≡ 256
    → bytes_of (put img p bytes) ≡ overwritten (bytes_of img) (offset_of p) bytes
unfolding put
bytes_of-put img p bytes is size = set_joined 256 img (index_of p) bytes
    (λ j h. (is.each j (omega (arith, h, is.size))).size) size (omega (arith, index_below p, is.size))
