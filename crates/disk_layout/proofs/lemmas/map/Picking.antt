-- The search for a free sector, on one track and from track to track.
use Rattle.std.proofs.Common.{
  ℕ,
  List,
  Option,
  Some,
  ap,
  ap₂,
  arith,
  inl,
  inr,
  slice_index,
  sym,
  subst,
  w8,
  ◌%◌,
  ◌*◌,
  ◌+◌,
  ◌-◌,
  ◌/◌,
  ◌<◌,
  ◌≡◌,
  ◌≢◌,
  ◌≤◌,
  ◌∙◌,
}
use Rattle.std.specs.Int.{bit_at, trailing_zeros}
use Rattle.std.specs.Prelude.{MatchOption}
use Rattle.std.proofs.lemmas.Nat.{div-mul-add, mod-mul-add}
use Rattle.std.proofs.lemmas.Nat.Bits.{bit_at-trailing_zeros}
use Rattle.std.proofs.lemmas.Bool.{cases_lt}
use Rattle.d64_image.proofs.Places.{place_at-found, place_at-none, place_at-some, track_fits, track_from_1}
use Rattle.d64_image.specs.Geometry.{sectors_on}
use Rattle.d64_image.specs.Places.{place_at}
use Rattle.d64_image.specs.declared.place.Place.{Place}
use Rattle.disk_layout.specs.Map.{IsFirstFree, IsFirstOn, IsFree, IsFullDisk, IsFullTrack, distance, map_bit}

-- no sector of the track below this one is free
abbrev pub NoneBelow : List ℕ → ℕ → ℕ → Type 0
NoneBelow bytes t s = (q : Place) → q.track ≡ t → q.sector < s → ¬ (IsFree bytes q)

-- the bits below z of a byte of the map are 0
pub more_below : (bytes : List ℕ) (t k z : ℕ) → z ≤ 8 → NoneBelow bytes t (8 * k)
    → ((i : ℕ) → i < z → bit_at (slice_index bytes (4 * t + 1 + k)) i ≡ 0) → NoneBelow bytes t (8 * k + z)
more_below bytes t k z few below zeros q track lt free = elim (cases_lt q.sector (8 * k)) [
  | inl less ↦ below q track less free
  | inr there ↦
      let i = q.sector - 8 * k in
      let low : i < 8 = omega (arith, lt, few) in
      let at : q.sector ≡ k * 8 + i = omega (arith, there) in
      let byte : q.sector / 8 ≡ k = ap (λ (n : ℕ). n / 8) at ∙ div-mul-add k 8 i low in
      let bit : q.sector % 8 ≡ i = ap (λ (n : ℕ). n % 8) at ∙ mod-mul-add k 8 i low in
      let same : map_bit bytes q.track q.sector ≡ bit_at (slice_index bytes (4 * t + 1 + k)) i =
      ap₂ (λ (n m : ℕ). bit_at (slice_index bytes (4 * n + 1 + q.sector / 8)) m) track bit
      ∙ ap (λ (n : ℕ). bit_at (slice_index bytes (4 * t + 1 + n)) i) byte in
      omega (arith, free, same, zeros i (omega (arith, lt, there)))
]

-- a byte of the map with a 1: its lowest is the track's first free sector, if the disk has that sector
pub first_in : (bytes : List ℕ) (t k : ℕ) (r : Option Place) → let n = slice_index bytes (4 * t + 1 + k) in let s =
    8 * k + trailing_zeros w8 n in n ≢ 0 → n < 256 → r ≡ place_at t s → NoneBelow bytes t (8 * k)
    → MatchOption r (IsFullTrack bytes t) (IsFirstOn bytes t)
first_in bytes t k r some fits is below =
    let P : Option Place → Type 0 = λ o. MatchOption o (IsFullTrack bytes t) (IsFirstOn bytes t) in
    elim (cases_lt s (sectors_on t)) [
      | inl there ↦
          let found = place_at-found t s there in
          subst P (sym (is ∙ found.1)) (first found.0 found.1)
      | inr past ↦ subst P (sym (is ∙ place_at-none t s past))
          (λ q track. none q track (omega (arith, q.on_disk, past, ap sectors_on track)))
    ]
  where
    n : ℕ
    n = slice_index bytes (4 * t + 1 + k)

    z : ℕ
    z = trailing_zeros w8 n

    s : ℕ
    s = 8 * k + z

    lowest : (z < 8) × (bit_at n z ≡ 1) × ((i : ℕ) → i < z → bit_at n i ≡ 0)
    lowest = bit_at-trailing_zeros w8 n (omega (arith, some)) fits

    none : NoneBelow bytes t s
    none = more_below bytes t k z (omega (arith, lowest.0)) below lowest.2

    first : (p : Place) → place_at t s ≡ Some p → IsFirstOn bytes t p
    first p at =
        let here = place_at-some t s p at in
        let sector : p.sector ≡ k * 8 + z = omega (arith, here.1) in
        let byte : p.sector / 8 ≡ k = ap (λ (m : ℕ). m / 8) sector ∙ div-mul-add k 8 z lowest.0 in
        let bit : p.sector % 8 ≡ z = ap (λ (m : ℕ). m % 8) sector ∙ mod-mul-add k 8 z lowest.0 in
        record {
          track = here.0;
          free = ap₂ (λ (u v : ℕ). bit_at (slice_index bytes (4 * u + 1 + p.sector / 8)) v) here.0 bit
              ∙ ap (λ (m : ℕ). bit_at (slice_index bytes (4 * t + 1 + m)) z) byte ∙ lowest.1;
          first = λ q track lt. none q track (omega (arith, lt, here.1));
        }

-- no sector nearer to track 18 than this is free, track 18 left out
abbrev pub NoneNearer : List ℕ → ℕ → Type 0
NoneNearer bytes d = (q : Place) → q.track ≢ 18 → distance q.track < d → ¬ (IsFree bytes q)

-- the search at a distance: first on the lower track, then on the higher one
pub first-lower : (bytes : List ℕ) (d : ℕ) (p : Place) → 1 ≤ d → d < 18 → NoneNearer bytes d
    → IsFirstOn bytes (18 - d) p → IsFirstFree bytes p
first-lower bytes d p some low nearer on = record {
  track = omega (arith, some, on.track);
  free = on.free;
  first = λ q off before. elim before [
    | inl near ↦ nearer q off (omega (arith, near, on.track))
    | inr (same, inl left) ↦ absurd (omega (arith, some, low, same, left, on.track))
    | inr (same, inr (here, less)) ↦ on.first q (here ∙ on.track) less
  ];
}

pub first-higher : (bytes : List ℕ) (d : ℕ) (p : Place) → 1 ≤ d → d < 18 → NoneNearer bytes d
    → IsFullTrack bytes (18 - d) → IsFirstOn bytes (18 + d) p → IsFirstFree bytes p
first-higher bytes d p some low nearer full on = record {
  track = omega (arith, some, on.track);
  free = on.free;
  first = λ q off before. elim before [
    | inl near ↦ nearer q off (omega (arith, near, on.track))
    | inr (same, inl left) ↦ full q (omega (arith, low, same, left, on.track))
    | inr (same, inr (here, less)) ↦ on.first q (here ∙ on.track) less
  ];
}

-- no sector is free at this distance either
pub none-there : (bytes : List ℕ) (d : ℕ) → NoneNearer bytes d → IsFullTrack bytes (18 - d) → IsFullTrack bytes (18 + d)
    → NoneNearer bytes (d + 1)
none-there bytes d nearer lower higher q off lt = elim (cases_lt (distance q.track) d) [
  | inl near ↦ nearer q off near
  | inr far ↦ elim (cases_lt q.track 18) [
    | inl left ↦ lower q (omega (arith, lt, far, left))
    | inr right ↦ higher q (omega (arith, lt, far, right))
  ]
]

-- no track is at distance 18 or more
pub none-anywhere : (bytes : List ℕ) (d : ℕ) → 18 ≤ d → NoneNearer bytes d → IsFullDisk bytes
none-anywhere bytes d far nearer q off = nearer q off (omega (arith, far, track_fits q, track_from_1 q))
