-- Places written into a list of bytes, and lists filled up with zeros.
use Rattle.std.proofs.Common.{
  inl,
  inr,
  min,
  ◌≡◌,
  ℕ,
  zero,
  suc,
  ◌+◌,
  ◌-◌,
  ◌*◌,
  ◌<◌,
  ◌≤◌,
  List,
  [],
  ◌∷◌,
  ◌++◌,
  length,
  get_or,
  take,
  drop,
  refl,
  sym,
  ◌∙◌,
  ap,
  arith,
  append_assoc,
  length-append,
}
use Rattle.std.specs.Prelude.{flat_map, replicate, slice_get}
use Rattle.std.proofs.lemmas.Bool.{cases_lt}
use Rattle.std.proofs.Math.Seq.{take-append_seam, drop-append_seam}
use Rattle.std.proofs.lemmas.List.{drop-replicate, length-replicate, take_more, take_all, drop-drop, length-take}
use Rattle.std.proofs.lemmas.Grind.{flat_map-append}
use Rattle.d64_image.specs.declared.place.Place.{Place}
use Rattle.disk_layout.specs.Side.{link_bytes, padded, place_bytes, pointers_of, side_sector}
use Rattle.disk_layout.specs.Visited.{room}

-- lists of places in bytes are twice as long
pub length-place_bytes : (ps : List Place) → length (flat_map place_bytes ps) ≡ 2 * length ps
length-place_bytes [] = refl
length-place_bytes (p ∷ ps) = omega (
  arith,
  length-append (place_bytes p) (flat_map place_bytes ps),
  length-place_bytes ps,
)

-- what the bytes are once i of the places have been written
abbrev pub written : List ℕ → ℕ → List Place → ℕ → List ℕ
written bytes at ps i = take at bytes ++ (flat_map place_bytes (take i ps) ++ drop (at + 2 * i) bytes)

take-long : {X : Type 0} (n : ℕ) (xs : List X) → n ≤ length xs → length (take n xs) ≡ n
take-long n xs h = omega (arith, length-take n xs)

-- one place more, its two bytes at once
pub written-step : (bytes now : List ℕ) (at : ℕ) (ps : List Place) (i : ℕ) (p : Place)
    → at + 2 * length ps ≤ length bytes → i < length ps → get_or ps i p ≡ p → now ≡ written bytes at ps i
    → take (at + 2 * i) now ++ (place_bytes p ++ drop 2 (drop (at + 2 * i) now)) ≡ written bytes at ps (i + 1)
written-step bytes now at ps i p room lt is e =
    let old : List ℕ = drop (at + 2 * i) bytes in
    let new : List ℕ = drop (at + 2 * (i + 1)) bytes in
    let front : List ℕ = take at bytes ++ flat_map place_bytes (take i ps) in
    let long : at + 2 * i ≡ length front =
    omega (
      arith,
      length-append (take at bytes) (flat_map place_bytes (take i ps)),
      take-long at bytes (omega (arith, room, lt)),
      length-place_bytes (take i ps),
      take-long i ps (omega (arith, lt)),
    ) in
    let here : now ≡ front ++ old = e ∙ sym (append_assoc (take at bytes) (flat_map place_bytes (take i ps)) old) in
    let before : take (at + 2 * i) now ≡ front = ap (take (at + 2 * i)) here ∙ ap (λ n. take n (front ++ old)) long
    ∙ take-append_seam front old in
    let from : drop (at + 2 * i) now ≡ old = ap (drop (at + 2 * i)) here ∙ ap (λ n. drop n (front ++ old)) long
    ∙ drop-append_seam front old in
    let next : at + 2 * i + 2 ≡ at + 2 * (i + 1) = omega arith in
    let behind : drop 2 (drop (at + 2 * i) now) ≡ new = ap (drop 2) from ∙ drop-drop 2 (at + 2 * i) bytes
    ∙ ap (λ n. drop n bytes) next in
    let more : flat_map place_bytes (take (i + 1) ps) ≡ flat_map place_bytes (take i ps) ++ place_bytes p =
    ap (flat_map place_bytes) (take_more ps i p lt ∙ ap (λ q. take i ps ++ q ∷ []) is)
    ∙ flat_map-append place_bytes (take i ps) (p ∷ []) in
    ap (λ t. t ++ (place_bytes p ++ drop 2 (drop (at + 2 * i) now))) before
    ∙ ap (λ t. front ++ (place_bytes p ++ t)) behind
    ∙ append_assoc (take at bytes) (flat_map place_bytes (take i ps)) (place_bytes p ++ new)
    ∙ ap (λ t. take at bytes ++ t) (sym (append_assoc (flat_map place_bytes (take i ps)) (place_bytes p) new))
    ∙ ap (λ t. take at bytes ++ (t ++ new)) (sym more)

-- a list written behind a front that zeros follow
pub put-front : (front xs : List ℕ) (m at a : ℕ) → at ≡ length front → a ≡ length xs
    → take at (front ++ replicate m 0) ++ (xs ++ drop (at + a) (front ++ replicate m 0)) ≡ front
    ++ (xs ++ replicate (m - length xs) 0)
put-front front xs m at a e l =
    let whole : List ℕ = front ++ replicate m 0 in
    let first : take at whole ≡ front = ap (λ n. take n whole) e ∙ take-append_seam front (replicate m 0) in
    let behind : drop at whole ≡ replicate m 0 = ap (λ n. drop n whole) e ∙ drop-append_seam front (replicate m 0) in
    let rest : drop (at + a) whole ≡ replicate (m - length xs) 0 = ap (λ n. drop (at + n) whole) l
    ∙ sym (drop-drop (length xs) at whole) ∙ ap (drop (length xs)) behind ∙ drop-replicate (length xs) m 0 in
    cc (first, rest)

replicate-add : (j k : ℕ) → replicate {A = ℕ} (j + k) 0 ≡ replicate j 0 ++ replicate k 0
replicate-add zero k = let e : 0 + k ≡ k = omega arith in rw e refl
replicate-add (suc j) k = let e : suc j + k ≡ suc (j + k) = omega arith in rw e (ap (λ t. 0 ∷ t) (replicate-add j k))

-- a head, a list filled up to n bytes and one filled up to m, written one after the other into zeros
pub put-both : (head xs ys : List ℕ) (n m h at a b : ℕ) → h ≡ length head → at ≡ h + n → length xs ≤ n → a ≡ length xs
    → b ≡ length ys → (bytes now : List ℕ) → bytes ≡ head ++ replicate (n + m) 0
    → now ≡ take h bytes ++ (xs ++ drop (h + a) bytes)
    → take at now ++ (ys ++ drop (at + b) now) ≡ (head ++ padded n xs) ++ padded m ys
unfolding padded
put-both head xs ys n m h at a b eh ea fit la lb bytes now is step =
    let left : (n + m) - length xs ≡ (n - length xs) + m = omega arith in
    let one : now ≡ head ++ (xs ++ (replicate (n - length xs) 0 ++ replicate m 0)) =
    step ∙ ap (λ t. take h t ++ (xs ++ drop (h + a) t)) is ∙ put-front head xs (n + m) h a eh la
    ∙ ap (λ k. head ++ (xs ++ replicate k 0)) left ∙ ap (λ t. head ++ (xs ++ t)) (replicate-add (n - length xs) m) in
    let front : List ℕ = head ++ (xs ++ replicate (n - length xs) 0) in
    let two : now ≡ front ++ replicate m 0 = one ∙ sym (shape head xs (replicate (n - length xs) 0) (replicate m 0)) in
    let long : at ≡ length front = omega (
      arith,
      length-append head (xs ++ replicate (n - length xs) 0),
      length-append xs (replicate (n - length xs) 0),
      length-replicate {A = ℕ} (n - length xs) 0,
    ) in
    ap (λ t. take at t ++ (ys ++ drop (at + b) t)) two ∙ put-front front ys m at b long lb
  where
    shape : (a b c d : List ℕ) → (a ++ (b ++ c)) ++ d ≡ a ++ (b ++ (c ++ d))
    shape a b c d = simp append_assoc

-- as many as there are, but n at most
pub take-min : {X : Type 0} (xs : List X) (n k : ℕ) → k ≡ min (length xs) n → take k xs ≡ take n xs
take-min xs n k e = elim (cases_lt (length xs) n) [
  | inl h ↦ take_all k xs (omega (arith, e)) ∙ sym (take_all n xs (omega arith))
  | inr h ↦ let same : k ≡ n = omega (arith, e) in ap (λ m. take m xs) same
]

-- a side sector from its link, its list and its pointers
pub side-parts : (j : ℕ) (blocks sides pointed listed : List Place) (L t s : ℕ) → pointed ≡ pointers_of j blocks
    → listed ≡ take 6 sides → t ∷ s ∷ [] ≡ link_bytes (slice_get sides (j + 1)) (15 + 2 * length pointed)
    → ((t ∷ s ∷ j ∷ L ∷ []) ++ padded 12 (flat_map place_bytes listed)) ++ padded 240 (flat_map place_bytes pointed)
    ≡ side_sector j blocks sides L
unfolding side_sector
side-parts j blocks sides pointed listed L t s p l link =
    ap (λ x. ((x ++ j ∷ L ∷ []) ++ padded 12 (flat_map place_bytes listed)) ++ padded 240
    (flat_map place_bytes pointed)) (link ∙ ap (λ ps. link_bytes (slice_get sides (j + 1)) (15 + 2 * length ps)) p)
    ∙ ap (λ ss. ((link_bytes (slice_get sides (j + 1)) (15 + 2 * length (pointers_of j blocks)) ++ j ∷ L ∷ [])
    ++ padded 12 (flat_map place_bytes ss)) ++ padded 240 (flat_map place_bytes pointed)) l
    ∙ ap (λ ps. ((link_bytes (slice_get sides (j + 1)) (15 + 2 * length (pointers_of j blocks)) ++ j ∷ L ∷ [])
    ++ padded 12 (flat_map place_bytes (take 6 sides))) ++ padded 240 (flat_map place_bytes ps)) p
