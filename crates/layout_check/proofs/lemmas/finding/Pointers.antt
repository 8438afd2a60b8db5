-- Lists of places in the bytes of side sectors.
use Rattle.std.proofs.Common.{
  ℕ,
  zero,
  suc,
  ◌≡◌,
  ◌≢◌,
  Bool,
  true,
  false,
  ◌<◌,
  ◌≤◌,
  ◌+◌,
  ◌-◌,
  ◌*◌,
  List,
  [],
  ◌∷◌,
  length,
  get_or,
  take,
  drop,
  min,
  sym,
  ◌∙◌,
  arith,
  inl,
  inr,
  ◌⊎◌,
}
use Rattle.std.specs.Prelude.{Some, nat_eq, slice_get, slice_range, ◌&&◌}
use Rattle.std.proofs.lemmas.Bool.{and_cases, false≢true, and_parts}
use Rattle.std.proofs.lemmas.Bool.Decides.{Decides-eqb}
use Rattle.std.proofs.lemmas.Option.{slice_get_within}
use Rattle.std.proofs.Math.Decide.{dec_lt}
use Rattle.d64_image.specs.declared.place.Place.{Place}
use Rattle.disk_layout.proofs.lemmas.lists.Lists.{get-drop, get-take, read-there}
use Rattle.disk_layout.specs.Chain.{Names}
use Rattle.layout_check.specs.Sides.{IsMisnamed, IsMispointed, NamesEach}

pub named-here : (bytes : List ℕ) (at n : ℕ) (ps : List Place) (p : Place) → n < length ps → p ≡ get_or ps n p
    → Names bytes (at + 2 * n) p → (q : Place) → slice_get ps n ≡ Some q → Names bytes (at + 2 * n) q
named-here bytes at n ps p lt e h q there =
    let same : p ≡ q = cc (read-there ps n p lt e) in
    rw (← same) h

pub misnamed-here : (bytes : List ℕ) (at n : ℕ) (ps : List Place) (p : Place) → n < length ps → p ≡ get_or ps n p
    → ¬ (Names bytes (at + 2 * n) p) → IsMisnamed bytes at ps
misnamed-here bytes at n ps p lt e h = record { k = n; q = p; there = read-there ps n p lt e; other = h }

-- the test of two bytes, after the tests of those before
pub same-passed : (same : Bool) (x y t s : ℕ) → (same && (nat_eq x t && nat_eq y s)) ≡ true → (same ≡ true) × (x ≡ t)
    × (y ≡ s)
same-passed same x y t s h =
    let p = and_parts same (nat_eq x t && nat_eq y s) h in
    let q = and_parts (nat_eq x t) (nat_eq y s) p.1 in
    (p.0, (Decides-eqb x t).0 q.0, (Decides-eqb y s).0 q.1)

pub same-failed : (same : Bool) (x y t s : ℕ) → (same && (nat_eq x t && nat_eq y s)) ≡ false → (same ≡ false)
    ⊎ ((x ≢ t) ⊎ (y ≢ s))
same-failed same x y t s h = elim (and_cases same (nat_eq x t && nat_eq y s) h) [
  | inl e ↦ inl e
  | inr f ↦ inr (elim (and_cases (nat_eq x t) (nat_eq y s) f) [
    | inl e ↦ inl (λ z. false≢true (sym e ∙ (Decides-eqb x t).1 z))
    | inr e ↦ inr (λ z. false≢true (sym e ∙ (Decides-eqb y s).1 z))
  ])
]

-- part of a list
take-short : {X : Type 0} (xs : List X) (n : ℕ) → length (take n xs) ≤ n
take-short xs zero = omega arith
take-short [] (suc n) = omega arith
take-short (x ∷ xs) (suc n) = omega (arith, take-short xs n)

pub get-range : {X : Type 0} (xs : List X) (a b k : ℕ) → k < b - a
    → slice_get (slice_range xs a b) k ≡ slice_get xs (a + k)
get-range xs a b k h = get-take (drop a xs) (b - a) k h ∙ get-drop xs a k

pub range-short : {X : Type 0} (xs : List X) (a b k : ℕ) (x : X) → slice_get (slice_range xs a b) k ≡ Some x → k < b - a
range-short xs a b k x e = omega (arith, slice_get_within (slice_range xs a b) k x e, take-short (drop a xs) (b - a))

-- the pointers of side sector j are judged as a part of the blocks
pub pointers-right : (bytes : List ℕ) (blocks : List Place) (j e : ℕ) → (120 * j + 120 ≤ e) ⊎ (length blocks ≤ e)
    → NamesEach bytes 16 (slice_range blocks (120 * j) e) → (k : ℕ) (q : Place) → k < 120
    → slice_get blocks (120 * j + k) ≡ Some q → Names bytes (16 + 2 * k) q
pointers-right bytes blocks j e far names k q low there =
    let here : k < e - 120 * j = inside far in
    names k q (get-range blocks (120 * j) e k here ∙ there)
  where
    inside : (120 * j + 120 ≤ e) ⊎ (length blocks ≤ e) → k < e - 120 * j
    inside (inl h) = omega arith
    inside (inr h) = omega (arith, slice_get_within blocks (120 * j + k) q there)

pub pointers-wrong : (bytes : List ℕ) (blocks : List Place) (j e : ℕ) → e ≤ 120 * j + 120
    → IsMisnamed bytes 16 (slice_range blocks (120 * j) e) → IsMispointed bytes blocks j
pointers-wrong bytes blocks j e near h =
    let here : h.k < e - 120 * j = range-short blocks (120 * j) e h.k h.q h.there in
    record {
      k = h.k;
      q = h.q;
      low = omega arith;
      there = sym (get-range blocks (120 * j) e h.k here) ∙ h.there;
      other = h.other;
    }

-- the end of the pointers is the end of the blocks, or 120 further on
pub end-far : (n m e : ℕ) → e ≡ min n m → (m ≤ e) ⊎ (n ≤ e)
end-far n m e h = elim (dec_lt n m) [ yes lt ↦ inr (omega (arith, h)) | no le ↦ inl (omega (arith, h, le)) ]
