-- A file takes one more block: the records of the longer file, and what other files keep.
use Rattle.std.proofs.Common.{
  List,
  [],
  ap,
  arith,
  drop,
  get_or,
  inl,
  inr,
  length,
  length-append,
  max,
  refl,
  slice_index,
  sym,
  ℕ,
  ◌*◌,
  ◌++◌,
  ◌+◌,
  ◌-◌,
  ◌<◌,
  ◌∙◌,
  ◌∷◌,
  ◌≡◌,
  ◌≢◌,
  ◌≤◌,
}
use Rattle.std.proofs.Math.ListN.{get_or-append}
use Rattle.std.proofs.Math.Nat.{lt-div-mul-add, mul-div_cancel}
use Rattle.std.proofs.lemmas.Bool.{cases_lt}
use Rattle.std.proofs.lemmas.Bool.Decides.{nat_tests}
use Rattle.std.proofs.lemmas.Grind.{flat_map-append}
use Rattle.std.specs.Prelude.{Some, replicate, slice_get, ◌/◌}
use Rattle.d64_image.proofs.Images.{sector-put_other, sector-put_same}
use Rattle.d64_image.specs.Images.{Image, IsImage, Sector, put, sector}
use Rattle.d64_image.specs.declared.place.Place.{Place}
use Rattle.disk_layout.proofs.lemmas.growth.Commit.{grown}
use Rattle.disk_layout.proofs.lemmas.growth.SideWrites.{get-append}
use Rattle.disk_layout.proofs.lemmas.layouts.Layouts.{get-contains}
use Rattle.disk_layout.proofs.lemmas.lists.Once.{Contains-here, EachOnce-apart}
use Rattle.disk_layout.proofs.lemmas.records.Fillers.{pieces-fill}
use Rattle.disk_layout.proofs.lemmas.records.Joined.{joined-at, joined-block, length-joined}
use Rattle.disk_layout.specs.Chain.{EachOnce}
use Rattle.disk_layout.specs.Layout.{File, record_length}
use Rattle.disk_layout.specs.Records.{IsFilled, empty_record, filler, joined, record_count, records}

pub joined-append : (img : Image) (ps qs : List Place) → joined img (ps ++ qs) ≡ joined img ps ++ joined img qs
unfolding joined
joined-append img ps qs = flat_map-append (λ p. drop 2 (sector img p)) ps qs

pub get-seam : {X : Type 0} (xs ys : List X) (x : X) → slice_get (xs ++ x ∷ ys) (length xs) ≡ Some x
get-seam [] ys x = refl
get-seam (z ∷ xs) ys x = get-seam xs ys x

-- a is the image before the commit, in which the fresh block is whole
module _ (a : Image) (f : File) (front : List Place) (c m u : ℕ) (last fresh : Place) (last_bytes block : Sector)
    (w : IsImage a) (v : IsImage (put a last last_bytes)) (there : sector a fresh ≡ block)
    (once : EachOnce (f.blocks ++ fresh ∷ [])) (h : IsFilled a f front last c (c + m) last_bytes block) where
  abbrev b : Image
  b = put a last last_bytes

  abbrev ps : List Place
  ps = f.blocks ++ fresh ∷ []

  abbrev L : ℕ
  L = record_length f.slot

  abbrev r : ℕ
  r = length front

  n-is : length f.blocks ≡ r + 1
  n-is = ap length h.blocks ∙ length-append front (last ∷ [])

  at-last : slice_get f.blocks r ≡ Some last
  at-last = ap (λ (xs : List Place). slice_get xs (length front)) h.blocks ∙ get-seam front [] last

  at-last-ps : slice_get ps r ≡ Some last
  at-last-ps = get-append f.blocks (fresh ∷ []) r last at-last

  at-fresh : slice_get ps (r + 1) ≡ Some fresh
  at-fresh = ap (slice_get (f.blocks ++ fresh ∷ [])) (sym n-is) ∙ get-seam f.blocks [] fresh

  old-front : (i : ℕ) → i < 254 * r + 254 → get_or (joined a ps) i 0 ≡ get_or (joined a f.blocks) i 0
  old-front i lt =
      let low : i < length (joined a f.blocks) = omega (arith, length-joined a f.blocks w, n-is) in
      ap (λ (xs : List ℕ). get_or xs i 0) (joined-append a f.blocks (fresh ∷ []))
      ∙ get_or-append (joined a f.blocks) (joined a (fresh ∷ [])) 0 i low

  byte-last : (i : ℕ) → 254 * r ≤ i → i < 254 * r + 254
      → get_or (joined b ps) i 0 ≡ slice_index last_bytes (2 + (i - 254 * r))
  byte-last i lo hi =
      let e : 254 * r + (i - 254 * r) ≡ i = omega arith in
      ap (λ (k : ℕ). get_or (joined b ps) k 0) (sym e)
      ∙ joined-at b ps r (i - 254 * r) last v at-last-ps (omega arith)
      ∙ ap (λ (x : List ℕ). slice_index x (2 + (i - 254 * r))) (sector-put_same a last last_bytes w.size)

  low : (i : ℕ) → i < c * L → get_or (joined a f.blocks) i 0 ≡ get_or (joined b ps) i 0
  low i lt = elim (cases_lt i (254 * r)) [
    | inl x ↦ sym (joined-block a ps r last last_bytes w v once at-last-ps i (inl x) ∙ old-front i (omega arith))
    | inr x ↦
        let hi : i < 254 * r + 254 = omega (arith, h.inside) in
        let e : 254 * r + (i - 254 * r) ≡ i = omega arith in
        ap (λ (k : ℕ). get_or (joined a f.blocks) k 0) (sym e)
        ∙ joined-at a f.blocks r (i - 254 * r) last w at-last (omega arith)
        ∙ sym (byte-last i x hi ∙ h.kept (i - 254 * r) (omega arith) (omega arith))
  ]

  last-other : last ≢ fresh
  last-other e = EachOnce-apart f.blocks (fresh ∷ []) once last (get-contains f.blocks r last at-last)
      (rw e (Contains-here fresh []))

  high : (i : ℕ) → c * L ≤ i → i < (c + m) * L → get_or (joined b ps) i 0 ≡ filler L (c + m) i
  high i lo hi = elim (cases_lt i (254 * r + 254)) [
    | inl x ↦
        let from : 254 * r ≤ i = omega (arith, h.from_last) in
        let e : 254 * r + (i - 254 * r) ≡ i = omega arith in
        byte-last i from x ∙ h.tail (i - 254 * r) (omega arith) (omega arith) ∙ ap (filler L (c + m)) e
    | inr x ↦
        let k : ℕ = i - (254 * r + 254) in
        let e : 254 * (r + 1) + (i - (254 * r + 254)) ≡ i = omega arith in
        let d : 254 * r + 254 + (i - (254 * r + 254)) ≡ i = omega arith in
        let lt : i - (254 * r + 254) < 254 = omega (arith, h.within) in
        ap (λ (k : ℕ). get_or (joined b ps) k 0) (sym e)
        ∙ joined-at b ps (r + 1) (i - (254 * r + 254)) fresh v at-fresh lt
        ∙ ap (λ (x : List ℕ). slice_index x (2 + (i - (254 * r + 254)))) (sector-put_other a last fresh last_bytes
        last-other ∙ there)
        ∙ h.block (i - (254 * r + 254)) lt
        ∙ ap (filler L (c + m)) d
  ]

  -- after the commit the records are the old ones, followed by empty ones
  pub records-grown : record_count (length f.blocks + 1) u (record_length f.slot) ≡ c + m
      → records (put a last last_bytes) (grown f fresh u f.sides) ≡ records a f ++ replicate m
      (empty_record (record_length f.slot))
  unfolding records
  records-grown count =
      let n : length (f.blocks ++ fresh ∷ []) ≡ length f.blocks + 1 = length-append f.blocks (fresh ∷ []) in
      let whole : record_count (length (f.blocks ++ fresh ∷ [])) u (record_length f.slot) ≡ c + m =
      ap (λ (k : ℕ). record_count k u (record_length f.slot)) n ∙ count in
      rw (whole, h.records_there)
      (pieces-fill L c m (joined a f.blocks) (joined b ps) h.positive
      (omega (arith, length-joined a f.blocks w, n-is, h.inside))
      (omega (arith, length-joined b ps v, n, n-is, h.within))
      low high)

-- u, the index_of of the last byte of the last whole record, gives all whole records of the blocks
pub count-full : (n u L total : ℕ) → 0 < L → L ≤ 254 → total ≡ 254 * (n + 1) / L → u + 254 * n ≡ total * L + 1
    → record_count (n + 1) u L ≡ total
unfolding record_count
count-full n u L total pos few e last =
    let above : 254 * (n + 1) < 254 * (n + 1) / L * L + L = lt-div-mul-add pos in
    let more : 254 * (n + 1) < total * L + L = rw e above in
    let top : 254 * ((n + 1) - 1) + max u 1 - 1 ≡ total * L = grind (arith, nat_tests) in
    rw top (mul-div_cancel total pos)
