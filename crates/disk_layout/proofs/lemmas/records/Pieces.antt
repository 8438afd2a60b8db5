-- Records as pieces of the joined bytes of a file.
use Rattle.std.proofs.Common.{
  ◌≡◌,
  ◌≢◌,
  ℕ,
  zero,
  suc,
  ◌+◌,
  ◌*◌,
  ◌<◌,
  ◌≤◌,
  ◌⊎◌,
  inl,
  inr,
  List,
  ◌∷◌,
  ◌++◌,
  length,
  get_or,
  take,
  drop,
  set,
  refl,
  sym,
  ◌∙◌,
  ap,
  arith,
  length-drop,
  get_or-set_same,
  get_or-set_other,
}
use Rattle.std.proofs.Math.ListN.{length-set}
use Rattle.std.proofs.lemmas.Bool.{cases_eq, cases_lt}
use Rattle.std.proofs.lemmas.List.{get_or-take, get_or-drop, drop-drop, same_lists, length-take}
use Rattle.std.proofs.lemmas.Grind.{same_number_lists}
use Rattle.disk_layout.specs.Records.{pieces}

pub row-le : (k n L : ℕ) → k < n → k * L + L ≤ n * L
row-le k n L h = grind arith

abbrev pub piece : ℕ → ℕ → List ℕ → List ℕ
piece L k xs = take L (drop (k * L) xs)

pub pieces-at : (L n : ℕ) (xs : List ℕ) (k : ℕ) (d : List ℕ) → k < n → get_or (pieces L n xs) k d ≡ piece L k xs
pieces-at L zero xs k d h = absurd (omega arith)
pieces-at L (suc n) xs zero d h = let e : 0 * L ≡ 0 = omega arith in rw e refl
pieces-at L (suc n) xs (suc k) d h =
    let e : suc k * L ≡ L + k * L = omega arith in
    pieces-at L n (drop L xs) k d (omega arith) ∙ ap (take L) (drop-drop (k * L) L xs ∙ ap (λ m. drop m xs) (sym e))

pub length-pieces : (L n : ℕ) (xs : List ℕ) → length (pieces L n xs) ≡ n
length-pieces L zero xs = refl
length-pieces L (suc n) xs = ap suc (length-pieces L n (drop L xs))

pub length-piece : (L k : ℕ) (xs : List ℕ) → k * L + L ≤ length xs → length (piece L k xs) ≡ L
length-piece L k xs h = simp (length-take, length-drop) (omega arith)

pub piece-byte : (L k : ℕ) (xs : List ℕ) (j : ℕ) → j < L → get_or (piece L k xs) j 0 ≡ get_or xs (k * L + j) 0
piece-byte L k xs j h = get_or-take L (drop (k * L) xs) j 0 h ∙ get_or-drop (k * L) xs j 0

-- a piece whose bytes agree is the same
pub piece-same : (L k : ℕ) (xs ys : List ℕ) → k * L + L ≤ length xs → k * L + L ≤ length ys
    → ((i : ℕ) → k * L ≤ i → i < k * L + L → get_or xs i 0 ≡ get_or ys i 0) → piece L k xs ≡ piece L k ys
piece-same L k xs ys fit fits bytes =
    same_number_lists (piece L k xs) (piece L k ys)
    (length-piece L k xs fit ∙ sym (length-piece L k ys fits))
    (λ j h. let lt : j < L = rw (length-piece L k xs fit) at h in
    piece-byte L k xs j lt ∙ bytes (k * L + j) (omega arith) (omega arith) ∙ sym (piece-byte L k ys j lt))

-- bytes that change within one piece alone change that piece alone
pub pieces-write : (L n r : ℕ) (xs ys : List ℕ) → n * L ≤ length xs → length xs ≡ length ys → r < n
    → ((i : ℕ) → (i < r * L) ⊎ (r * L + L ≤ i) → get_or xs i 0 ≡ get_or ys i 0)
    → pieces L n ys ≡ set (pieces L n xs) r (piece L r ys)
pieces-write L n r xs ys fit same lt bytes =
    same_lists (pieces L n ys) (set (pieces L n xs) r (piece L r ys)) (length-pieces L n ys
    ∙ sym (length-set _ r _ ∙ length-pieces L n xs)) each
  where
    outside : (k i : ℕ) → k ≢ r → k * L ≤ i → i < k * L + L → (i < r * L) ⊎ (r * L + L ≤ i)
    outside k i ne a b =
        elim (cases_lt k r) [
          | inl h ↦ inl (omega (arith, row-le k r L h))
          | inr h ↦ inr (omega (arith, row-le r k L (omega arith)))
        ]

    each : (k : ℕ) (d : List ℕ) → k < length (pieces L n ys)
        → get_or (pieces L n ys) k d ≡ get_or (set (pieces L n xs) r (piece L r ys)) k d
    each k d h =
        let below : k < n = rw length-pieces at h in
        elim (cases_eq k r) [
          | inl e ↦ let here : r < length (pieces L n xs) = rw length-pieces lt in
              pieces-at L n ys k d below ∙ ap (λ m. piece L m ys) e
              ∙ sym (ap (λ m. get_or (set (pieces L n xs) r (piece L r ys)) m d) e
              ∙ get_or-set_same (pieces L n xs) r (piece L r ys) d here)
          | inr ne ↦ pieces-at L n ys k d below ∙ sym (get_or-set_other (pieces L n xs) r k (piece L r ys) d ne
              ∙ pieces-at L n xs k d below ∙ piece-same L k xs ys (omega (arith, row-le k n L below))
              (omega (arith, row-le k n L below)) (λ i a b. bytes i (outside k i ne a b)))
        ]

-- more bytes behind give more pieces behind
pub pieces-more : (L n m : ℕ) (xs : List ℕ) → pieces L (n + m) xs ≡ pieces L n xs ++ pieces L m (drop (n * L) xs)
pieces-more L zero m xs = let e : 0 + m ≡ m = omega arith in let z : 0 * L ≡ 0 = omega arith in rw (e, z) refl
pieces-more L (suc n) m xs =
    let e : suc n + m ≡ suc (n + m) = omega arith in
    let z : suc n * L ≡ L + n * L = omega arith in
    rw (e, z, ← drop-drop (n * L) L xs) (ap (λ t. take L xs ∷ t) (pieces-more L n m (drop L xs)))

pub pieces-same : (L n : ℕ) (xs ys : List ℕ) → n * L ≤ length xs → n * L ≤ length ys
    → ((i : ℕ) → i < n * L → get_or xs i 0 ≡ get_or ys i 0) → pieces L n xs ≡ pieces L n ys
pieces-same L n xs ys fx fy bytes =
    same_lists (pieces L n xs) (pieces L n ys) (length-pieces L n xs ∙ sym (length-pieces L n ys)) (λ k d h.
    let below : k < n = rw length-pieces at h in
    let row = row-le k n L below in
    pieces-at L n xs k d below ∙ piece-same L k xs ys (omega arith) (omega arith) (λ i a b. bytes i (omega arith))
    ∙ sym (pieces-at L n ys k d below))
