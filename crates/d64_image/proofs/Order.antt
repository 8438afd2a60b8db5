-- The places in the order of an image: the list of them, and loops that go over all.
use Rattle.std.proofs.Common.{ℕ, zero, suc, ◌+◌, ◌-◌, ◌<◌, ◌≤◌, ◌≡◌, ◌++◌, ◌∷◌, ◌∙◌, List, [], Some, add-one, ap, ap₂, arith, drop, get_or, inl, inr, length, length-append, refl, subst, sym, take}
use Rattle.std.specs.Prelude.{flat_map}
use Rattle.std.specs.List.{filter_map, range_with_len}
use Rattle.std.proofs.lemmas.Bool.{cases_lt}
use Rattle.std.proofs.lemmas.Grind.{flat_map-append}
use Rattle.std.proofs.lemmas.List.{flat_map_more, get_or-append_right, get_or_append_left, take-append-drop, take_all, take_more}
use Rattle.d64_image.specs.declared.place.Place.{Place}
use Rattle.d64_image.specs.Geometry.{sectors_below, sectors_on}
use Rattle.d64_image.specs.Places.{index_of, place_at, places}
use Rattle.d64_image.proofs.Places.{
  below_grows,
  index_below,
  index_parts,
  place_at-found,
  place_at-self,
  same_index,
  sectors_below-36,
  track_fits,
  track_from_1,
  zones_start,
}

-- n sectors of a track from sector k on, if it has so many: as many places, of which number j is sector k + j
row-length : (t k n : ℕ) → k + n ≤ sectors_on t → length (filter_map (place_at t) (range_with_len k n)) ≡ n
row-length t k zero le = refl
row-length t k (suc n) le =
    let (p, here) = place_at-found t k (omega (arith, le)) in
    rw here (ap suc (row-length t (k + 1) n (omega (arith, le))))

row-at : (t k n j : ℕ) (p d : Place) → k + n ≤ sectors_on t → j < n → place_at t (k + j) ≡ Some p
    → get_or (filter_map (place_at t) (range_with_len k n)) j d ≡ p
row-at t k zero j p d le lt here = absurd (omega (arith, lt))
row-at t k (suc n) zero p d le lt here =
    let at : k + 0 ≡ k = omega arith in
    let first : place_at t k ≡ Some p = ap (place_at t) (sym at) ∙ here in
    rw first refl
row-at t k (suc n) (suc j) p d le lt here =
    let (q, first) = place_at-found t k (omega (arith, le)) in
    let at : k + 1 + j ≡ k + suc j = omega arith in
    rw first (row-at t (k + 1) n j p d (omega (arith, le)) (omega (arith, lt)) (ap (place_at t) at ∙ here))

abbrev row : ℕ → List Place
row t = filter_map (place_at t) (range_with_len 0 (sectors_on t))

below-next : (t : ℕ) → sectors_below (t + 1) ≡ sectors_below t + sectors_on t
unfolding sectors_below
below-next t = rw add-one refl

-- the places of n tracks from t on
rows-length : (t n : ℕ) → sectors_below t + length (flat_map row (range_with_len t n)) ≡ sectors_below (t + n)
rows-length t zero = let at : t ≡ t + 0 = omega arith in omega (arith, ap sectors_below at)
rows-length t (suc n) =
    let rest = flat_map row (range_with_len (t + 1) n) in
    let at : t + 1 + n ≡ t + suc n = omega arith in
    omega (
      arith,
      length-append (row t) rest,
      row-length t 0 (sectors_on t) (omega arith),
      below-next t,
      rows-length (t + 1) n,
      ap sectors_below at,
    )

rows-at : (t n i : ℕ) (p d : Place) → t ≤ p.track → p.track < t + n → sectors_below t + i ≡ index_of p
    → get_or (flat_map row (range_with_len t n)) i d ≡ p
rows-at t zero i p d from to at = absurd (omega (arith, from, to))
rows-at t (suc n) i p d from to at = elim (cases_lt t p.track) [
  | inl later ↦
      let rest = flat_map row (range_with_len (t + 1) n) in
      let long = row-length t 0 (sectors_on t) (omega arith) in
      let past : sectors_on t ≤ i = omega (arith, at, index_parts p, below_grows t p.track later) in
      get_or-append_right (row t) rest (sectors_on t) i d long past
      ∙ rows-at (t + 1) n (i - sectors_on t) p d (omega (arith, later)) (omega (arith, to))
      (omega (arith, below-next t, at, past))
  | inr here ↦
      let on : t ≡ p.track = omega (arith, from, here) in
      let this : i ≡ p.sector = omega (arith, at, index_parts p, ap sectors_below on) in
      let inside : i < sectors_on t = omega (arith, this, p.on_disk, ap sectors_on on) in
      let long = row-length t 0 (sectors_on t) (omega arith) in
      get_or_append_left (row t) _ d i (omega (arith, long, inside))
      ∙ row-at t 0 (sectors_on t) i p d (omega arith) inside
      (ap₂ place_at on (omega (arith, this)) ∙ place_at-self p)
]

pub places-length : length places ≡ 683
unfolding places
places-length = omega (arith, rows-length 1 35, sectors_below-36, zones_start.0)

pub places-at : (p d : Place) → get_or places (index_of p) d ≡ p
unfolding places
places-at p d = rows-at 1 35 (index_of p) p d (track_from_1 p) (track_fits p) (omega (arith, zones_start.0))

-- the place with this index comes after those before it
pub place-taken : (i : ℕ) (p : Place) → index_of p ≡ i → take (i + 1) places ≡ take i places ++ p ∷ []
place-taken i p at =
    take_more places i p (omega (arith, places-length, index_below p, at))
    ∙ ap (λ (q : Place). take i places ++ q ∷ []) (ap (λ (k : ℕ). get_or places k p) (sym at) ∙ places-at p p)

-- the same of a text that has a part for each place, and what it has left
pub text-more : {X : Type 0} (part : Place → List X) (i : ℕ) (p : Place) → index_of p ≡ i
    → flat_map part (take i places) ++ part p ≡ flat_map part (take (i + 1) places)
text-more part i p at =
    flat_map_more part [] (take i places) p ∙ ap (flat_map part) (sym (place-taken i p at))

pub text-left : {X : Type 0} (part : Place → List X) (i : ℕ)
    → flat_map part (take i places) ++ flat_map part (drop i places) ≡ flat_map part places
text-left part i =
    sym (flat_map-append part (take i places) (drop i places)) ∙ ap (flat_map part) (take-append-drop i places)

pub all-taken : (i : ℕ) → 683 ≤ i → take i places ≡ places
all-taken i all = take_all i places (omega (arith, all, places-length))

-- what holds of each place before, and of the one with this index, holds of each up to it
pub each-more : (P : Place → Type 0) (i : ℕ) (p : Place) → index_of p ≡ i → ((q : Place) → index_of q < i → P q) → P p
    → (q : Place) → index_of q < i + 1 → P q
each-more P i p at before here q lt = elim (cases_lt (index_of q) i) [
  | inl less ↦ before q less
  | inr more ↦ subst P (same_index p q (omega (arith, at, lt, more))) here
]

-- and after the last one of all
pub each-place : (P : Place → Type 0) (i : ℕ) → 683 ≤ i → ((q : Place) → index_of q < i → P q) → (q : Place) → P q
each-place P i all before q = before q (omega (arith, all, index_below q))
