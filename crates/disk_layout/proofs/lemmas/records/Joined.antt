-- The joined bytes of a chain, byte by byte.
use Rattle.std.proofs.Common.{
  ◌≡◌,
  ◌≢◌,
  ℕ,
  zero,
  suc,
  ◌+◌,
  ◌-◌,
  ◌*◌,
  ◌<◌,
  ◌≤◌,
  ◌⊎◌,
  inl,
  inr,
  List,
  [],
  ◌∷◌,
  ◌++◌,
  length,
  get_or,
  slice_index,
  drop,
  set,
  max,
  refl,
  sym,
  ◌∙◌,
  ap,
  subst,
  arith,
  length-append,
  length-drop,
}
use Rattle.std.specs.Prelude.{Contains, slice_get, Some}
use Rattle.std.proofs.lemmas.Bool.{cases_lt}
use Rattle.std.proofs.lemmas.List.{get_or-drop, get_or-append_right}
use Rattle.std.proofs.Math.ListN.{get_or-append}
use Rattle.std.proofs.Math.Nat.{div-mul-le_self}
use Rattle.d64_image.proofs.Images.{is_sector, sector-put_other, sector-put_same}
use Rattle.d64_image.specs.Images.{Image, IsImage, put, sector}
use Rattle.d64_image.specs.declared.place.Place.{Place}
use Rattle.disk_layout.proofs.lemmas.layouts.Layouts.{get-contains}
use Rattle.disk_layout.proofs.lemmas.lists.Once.{Contains-here, Contains-there}
use Rattle.disk_layout.proofs.lemmas.records.Pieces.{piece, pieces-write}
use Rattle.disk_layout.specs.Chain.{EachOnce, byte}
use Rattle.disk_layout.specs.Layout.{File, record_length}
use Rattle.disk_layout.specs.Records.{joined, record_count, records}

pub sector-long : (img : Image) (p : Place) → IsImage img → length (sector img p) ≡ 256
sector-long img p w = (is_sector img p w).size

pub joined-nil : (img : Image) → joined img [] ≡ []
unfolding joined
joined-nil img = refl

pub joined-cons : (img : Image) (p : Place) (ps : List Place) → joined img (p ∷ ps) ≡ drop 2 (sector img p)
    ++ joined img ps
unfolding joined
joined-cons img p ps = refl

front-long : (img : Image) (p : Place) → IsImage img → length (drop 2 (sector img p)) ≡ 254
front-long img p w = length-drop 2 (sector img p) ∙ ap (λ n. n - 2) (sector-long img p w)

pub length-joined : (img : Image) (ps : List Place) → IsImage img → length (joined img ps) ≡ 254 * length ps
length-joined img [] w = ap length (joined-nil img)
length-joined img (p ∷ ps) w =
    let e = ap length (joined-cons img p ps) ∙ length-append (drop 2 (sector img p)) (joined img ps) in
    omega (arith, e, front-long img p w, length-joined img ps w)

-- byte i of the joined data lies in block i / 254, from its byte 2 on
pub joined-at : (img : Image) (ps : List Place) (k j : ℕ) (p : Place) → IsImage img → slice_get ps k ≡ Some p → j < 254
    → get_or (joined img ps) (254 * k + j) 0 ≡ byte img p (2 + j)
joined-at img [] k j p w at h = cc
joined-at img (q ∷ ps) zero j p w at h =
    let e : q ≡ p = cc in
    let n : 254 * 0 + j ≡ j = omega arith in
    let lt : j < length (drop 2 (sector img q)) = rw (front-long img q w) h in
    rw (n, joined-cons img q ps) (get_or-append (drop 2 (sector img q)) (joined img ps) 0 j lt
    ∙ get_or-drop 2 (sector img q) j 0 ∙ ap (λ x. byte img x (2 + j)) e)
joined-at img (q ∷ ps) (suc k) j p w at h =
    let n : (254 * suc k + j) - 254 ≡ 254 * k + j = omega arith in
    rw (joined-cons img q ps) (get_or-append_right (drop 2 (sector img q)) (joined img ps) 254 (254 * suc k + j) 0
    (front-long img q w) (omega arith) ∙ ap (λ m. get_or (joined img ps) m 0) n ∙ joined-at img ps k j p w at h)

-- a write outside the chain leaves the joined data
pub joined-other : (img : Image) (ps : List Place) (p : Place) (b : List ℕ) → ¬ (Contains ps p)
    → joined (put img p b) ps ≡ joined img ps
joined-other img [] p b free = joined-nil (put img p b) ∙ sym (joined-nil img)
joined-other img (q ∷ ps) p b free =
    let here : sector (put img p b) q ≡ sector img q =
    sector-put_other img p q b (λ e. free (rw e (Contains-here q ps))) in
    let rest = joined-other img ps p b (λ c. free (Contains-there p q ps c)) in
    joined-cons (put img p b) q ps ∙ cc (ap (drop 2) here, rest, joined-cons img q ps)

-- a write to block r changes the joined data of that block alone
pub joined-block : (img : Image) (ps : List Place) (r : ℕ) (p : Place) (b : List ℕ) → IsImage img
    → IsImage (put img p b) → EachOnce ps → slice_get ps r ≡ Some p → (i : ℕ) → (i < 254 * r) ⊎ (254 * r + 254 ≤ i)
    → get_or (joined (put img p b) ps) i 0 ≡ get_or (joined img ps) i 0
joined-block img [] r p b w v once at i out = cc
joined-block img (q ∷ ps) zero p b w v once at i (inl low) = absurd (omega arith)
joined-block img (q ∷ ps) zero p b w v once at i (inr high) =
    let e : q ≡ p = cc in
    let free : ¬ (Contains ps p) = rw (← e) once.0 in
    rw (joined-cons (put img p b) q ps, joined-cons img q ps)
    (get_or-append_right (drop 2 (sector (put img p b) q)) (joined (put img p b) ps) 254 i 0
    (front-long (put img p b) q v) (omega arith)
    ∙ ap (λ xs. get_or xs (i - 254) 0) (joined-other img ps p b free)
    ∙ sym (get_or-append_right (drop 2 (sector img q)) (joined img ps) 254 i 0 (front-long img q w) (omega arith)))
joined-block img (q ∷ ps) (suc r) p b w v once at i out =
    let ne : p ≢ q = λ e. once.0 (rw (← e) (get-contains ps r p at)) in
    let here : sector (put img p b) q ≡ sector img q = sector-put_other img p q b ne in
    rw (joined-cons (put img p b) q ps, joined-cons img q ps)
    (elim (cases_lt i 254) [
      | inl h ↦ let ln : i < length (drop 2 (sector (put img p b) q)) = rw (front-long (put img p b) q v) h in
          let lo : i < length (drop 2 (sector img q)) = rw (front-long img q w) h in
          get_or-append (drop 2 (sector (put img p b) q)) (joined (put img p b) ps) 0 i ln
          ∙ ap (λ s. get_or (drop 2 s) i 0) here
          ∙ sym (get_or-append (drop 2 (sector img q)) (joined img ps) 0 i lo)
      | inr h ↦ get_or-append_right (drop 2 (sector (put img p b) q)) (joined (put img p b) ps) 254 i 0
          (front-long (put img p b) q v) h
          ∙ joined-block img ps r p b w v once.1 at (i - 254) (shift i r out h)
          ∙ sym (get_or-append_right (drop 2 (sector img q)) (joined img ps) 254 i 0 (front-long img q w) h)
    ])
  where
    shift : (i r : ℕ) → (i < 254 * suc r) ⊎ (254 * suc r + 254 ≤ i) → 254 ≤ i → (i - 254 < 254 * r)
        ⊎ (254 * r + 254 ≤ i - 254)
    shift i r (inl a) h = inl (omega arith)
    shift i r (inr a) h = inr (omega arith)

-- the whole records fit the blocks
pub record_count-fit : (n u L : ℕ) → 0 < L → 0 < n → u ≤ 255 → record_count n u L * L ≤ 254 * n
unfolding record_count
record_count-fit n u L hl hn hu = omega (arith, div-mul-le_self (254 * (n - 1) + max u 1 - 1) L)

-- a write to one block that changes only bytes of record k changes that record alone
pub records-write : (img : Image) (f : File) (r k : ℕ) (p : Place) (b : List ℕ) → IsImage img → IsImage (put img p b)
    → EachOnce f.blocks → slice_get f.blocks r ≡ Some p
    → k < record_count (length f.blocks) f.last (record_length f.slot)
    → record_count (length f.blocks) f.last (record_length f.slot) * record_length f.slot ≤ 254 * length f.blocks
    → ((j : ℕ) → j < 254 → (254 * r + j < k * record_length f.slot)
    ⊎ (k * record_length f.slot + record_length f.slot ≤ 254 * r + j) → slice_index b (2 + j) ≡ byte img p (2 + j))
    → records (put img p b) f ≡ set (records img f) k (piece (record_length f.slot) k (joined (put img p b) f.blocks))
unfolding records
records-write img f r k p b w v once at below fit same =
    pieces-write (record_length f.slot) (record_count (length f.blocks) f.last (record_length f.slot)) k
    (joined img f.blocks) (joined (put img p b) f.blocks)
    (rw (length-joined img f.blocks w) fit)
    (length-joined img f.blocks w ∙ sym (length-joined (put img p b) f.blocks v))
    below
    bytes
  where
    inside : (j : ℕ) → j < 254 → (254 * r + j < k * record_length f.slot)
        ⊎ (k * record_length f.slot + record_length f.slot ≤ 254 * r + j) → get_or (joined img f.blocks) (254 * r + j) 0
        ≡ get_or (joined (put img p b) f.blocks) (254 * r + j) 0
    inside j h out =
        joined-at img f.blocks r j p w at h
        ∙ sym (same j h out)
        ∙ ap (λ s. slice_index s (2 + j)) (sym (sector-put_same img p b w.size))
        ∙ sym (joined-at (put img p b) f.blocks r j p v at h)

    bytes : (i : ℕ) → (i < k * record_length f.slot) ⊎ (k * record_length f.slot + record_length f.slot ≤ i)
        → get_or (joined img f.blocks) i 0 ≡ get_or (joined (put img p b) f.blocks) i 0
    bytes i out = elim (cases_lt i (254 * r)) [
      | inl a ↦ sym (joined-block img f.blocks r p b w v once at i (inl a))
      | inr a ↦ elim (cases_lt i (254 * r + 254)) [
        | inl c ↦ let e : 254 * r + (i - 254 * r) ≡ i = omega arith in
            subst (λ (m : ℕ). get_or (joined img f.blocks) m 0 ≡ get_or (joined (put img p b) f.blocks) m 0) e
            (inside (i - 254 * r) (omega arith) (rw e out))
        | inr c ↦ sym (joined-block img f.blocks r p b w v once at i (inr c))
      ]
    ]
