-- A map of free sectors at work: tables over all tracks and sectors, which the checker computes.
use Rattle.std.proofs.Common.{
  List,
  [],
  Bool,
  true,
  false,
  arith,
  inl,
  inr,
  lit<,
  refl,
  sym,
  replicate,
  ℕ,
  zero,
  suc,
  ◌++◌,
  ◌<◌,
  ◌⊎◌,
  ◌∙◌,
  ◌∷◌,
  ◌≡◌,
  ◌≢◌,
}
use Rattle.std.proofs.lemmas.Bool.{agree_below, agree_below_at, cases_Bool, eq-eqb, eqb-true, false≢true}
use Rattle.std.proofs.lemmas.Bool.Decides.{nat_tests}
use Rattle.std.specs.Prelude.{Contains, ◌&&◌, ◌||◌, nat_eq, nat_lt, not, sum_by}
use Rattle.d64_image.proofs.Places.{same_place, track_fits}
use Rattle.d64_image.specs.Geometry.{sectors_on}
use Rattle.d64_image.specs.Images.{Sector}
use Rattle.d64_image.specs.declared.place.Place.{Place}
use Rattle.disk_layout.proofs.Examples.{block_0, block_1}
use Rattle.disk_layout.proofs.lemmas.lists.Once.{Contains-cases, Contains-nil}
use Rattle.disk_layout.proofs.lemmas.map.Bits.{turned-taken}
use Rattle.disk_layout.specs.Directory.{directory_start, map_place}
use Rattle.disk_layout.specs.Map.{IsMapOf, IsTaken, map_bit, map_count, numbers_below}

-- n times the four bytes of a track
abbrev tracks : ℕ → List ℕ → List ℕ
tracks zero bytes = []
tracks (suc n) bytes = bytes ++ tracks n bytes

-- the map of a disk on which sectors 0 and 1 of track 18 are taken, and all else is free but for track 17, which has
-- this count and this first byte of bits
unfoldable pub map_bytes : (count bits : ℕ) → Sector
map_bytes count bits =
    (18 ∷ 1 ∷ 65 ∷ 0 ∷ [])
    ++ (tracks 16 (21 ∷ 255 ∷ 255 ∷ 31 ∷ [])
    ++ ((count ∷ bits ∷ 255 ∷ 31 ∷ [])
    ++ ((17 ∷ 252 ∷ 255 ∷ 7 ∷ [])
    ++ (tracks 6 (19 ∷ 255 ∷ 255 ∷ 7 ∷ [])
    ++ (tracks 6 (18 ∷ 255 ∷ 255 ∷ 3 ∷ [])
    ++ (tracks 5 (17 ∷ 255 ∷ 255 ∷ 1 ∷ []) ++ replicate 112 0))))))

-- the first two sectors of tracks 17 and 18 are taken
abbrev is_free : ℕ → ℕ → Bool
is_free t s = not ((nat_eq t 17 || nat_eq t 18) && nat_lt s 2)

abbrev marks_of : Sector → ℕ → Bool
marks_of bytes t = agree_below (λ s. nat_eq (map_bit bytes t s) 1) (is_free t) (sectors_on t)

abbrev counts_of : Sector → ℕ → Bool
counts_of bytes t = nat_eq t 0 || nat_eq (map_count bytes t) (sum_by (map_bit bytes t) (numbers_below (sectors_on t)))

-- the two tables
marks-hold : agree_below (marks_of (map_bytes 19 252)) (λ _. true) 36 ≡ true
unfolding map_bytes
marks-hold = refl

counts-hold : agree_below (counts_of (map_bytes 19 252)) (λ _. true) 36 ≡ true
unfolding map_bytes
counts-hold = refl

-- a sector is marked free exactly where it is
marked-free : (t s : ℕ) → s < sectors_on t → nat_eq (map_bit (map_bytes 19 252) t s) 1 ≡ is_free t s
marked-free t s on =
    let p : Place = record { track = t; sector = s; on_disk = on } in
    agree_below_at (λ s. nat_eq (map_bit (map_bytes 19 252) t s) 1) (is_free t) (sectors_on t) s
    (agree_below_at (marks_of (map_bytes 19 252)) (λ _. true) 36 t marks-hold (track_fits p)) on

-- the four places that are taken
abbrev pub owned : List Place
owned = map_place ∷ directory_start ∷ block_0 ∷ block_1 ∷ []

taken-owned : (p : Place) → is_free p.track p.sector ≡ false → Contains owned p
taken-owned p e = by_place (place_cases p.track p.sector e)
  where
    place_cases : (t s : ℕ) → is_free t s ≡ false → ((t ≡ 18) ⊎ (t ≡ 17)) × ((s ≡ 0) ⊎ (s ≡ 1))
    place_cases t s e = grind (arith, nat_tests)

    by_place : ((p.track ≡ 18) ⊎ (p.track ≡ 17)) × ((p.sector ≡ 0) ⊎ (p.sector ≡ 1)) → Contains owned p
    by_place (inl t, inl s) = rw (same_place p map_place t s) (0, lit< tt, refl)
    by_place (inl t, inr s) = rw (same_place p directory_start t s) (1, lit< tt, refl)
    by_place (inr t, inl s) = rw (same_place p block_0 t s) (2, lit< tt, refl)
    by_place (inr t, inr s) = rw (same_place p block_1 t s) (3, lit< tt, refl)

owned-taken : (p : Place) → Contains owned p → is_free p.track p.sector ≡ false
owned-taken p c = elim (Contains-cases p map_place (directory_start ∷ block_0 ∷ block_1 ∷ []) c) [
  | inl e ↦ rw (← e) refl
  | inr c ↦ elim (Contains-cases p directory_start (block_0 ∷ block_1 ∷ []) c) [
    | inl e ↦ rw (← e) refl
    | inr c ↦ elim (Contains-cases p block_0 (block_1 ∷ []) c) [
      | inl e ↦ rw (← e) refl
      | inr c ↦ elim (Contains-cases p block_1 [] c) [ inl e ↦ rw (← e) refl | inr d ↦ absurd (Contains-nil p d) ]
    ]
  ]
]

-- the map is that of a disk on which these four are owned
pub map-is : IsMapOf (map_bytes 19 252) owned
map-is = record {
  marked = λ p. (
    λ one c. false≢true (sym (owned-taken p c) ∙ (sym (marked-free p.track p.sector p.on_disk)
        ∙ eq-eqb _ _ one)),
    λ out. marked p out (cases_Bool (is_free p.track p.sector)),
  );
  counts = λ t low high. elim (cases_Bool (nat_eq t 0)) [
    | inl z ↦ absurd (omega (arith, eqb-true t 0 z))
    | inr n ↦ eqb-true _ _ (from t n (agree_below_at (counts_of (map_bytes 19 252)) (λ _. true) 36 t counts-hold
        (omega arith)))
  ];
}
  where
    marked : (p : Place) → ¬ (Contains owned p) → (is_free p.track p.sector ≡ true) ⊎ (is_free p.track p.sector ≡ false)
        → map_bit (map_bytes 19 252) p.track p.sector ≡ 1
    marked p out (inl e) = eqb-true _ _ (marked-free p.track p.sector p.on_disk ∙ e)
    marked p out (inr e) = absurd (out (taken-owned p e))

    from : (t : ℕ) → nat_eq t 0 ≡ false → counts_of (map_bytes 19 252) t ≡ true
        → nat_eq (map_count (map_bytes 19 252) t) (sum_by (map_bit (map_bytes 19 252) t) (numbers_below (sectors_on t)))
        ≡ true
    from t n h = rw n at h

-- with the bit of 17/0 set the map is wrong there, and with another count of track 17 at 18/0
pub block_0-free : map_bit (map_bytes 19 253) 17 0 ≡ 1
unfolding map_bytes
block_0-free = refl

pub count-18 : map_count (map_bytes 18 252) 17 ≢ sum_by (map_bit (map_bytes 18 252) 17) (numbers_below (sectors_on 17))
unfolding map_bytes
count-18 e = omega (arith, e)

-- 17/1 becomes taken: its bit, and the count of its track
pub taken-17_1 : IsTaken (map_bytes 20 254) (map_bytes 19 252) block_1
unfolding map_bytes
taken-17_1 = turned-taken (map_bytes 20 254) block_1 19 refl refl refl
