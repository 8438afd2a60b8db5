-- The sectors of a track freed one by one.
use Rattle.std.proofs.Common.{List, [], Some, ap, ap₂, arith, inl, inr, min, refl, sym, ℕ, ◌+◌, ◌-◌, ◌<◌, ◌∙◌, ◌≡◌}
use Rattle.std.proofs.Common.{◌≢◌, ◌≤◌, drop, get_or, length, replicate, take, ◌*◌, ◌++◌, ◌∷◌}
use Rattle.std.proofs.lemmas.Bool.{cases_eq}
use Rattle.std.proofs.lemmas.Bool.Decides.{nat_tests}
use Rattle.std.proofs.Math.ListN.{get_or-append}
use Rattle.std.proofs.lemmas.List.{get_or-append_right, get_or-replicate, length-replicate}
use Rattle.std.proofs.lemmas.Nat.Bits.{bit_at-zero}
use Rattle.std.specs.Int.{bit_at}
use Rattle.std.specs.Prelude.{if◌then◌else◌, nat_le, nat_lt, ◌%◌, ◌&&◌, ◌/◌}
use Rattle.d64_image.proofs.Places.{place_at-some, few_sectors}
use Rattle.d64_image.specs.Geometry.{sectors_on}
use Rattle.d64_image.specs.Places.{place_at}
use Rattle.d64_image.specs.declared.place.Place.{Place}
use Rattle.disk_layout.specs.Blank.{IsBlankMap, names_of, taken_on}
use Rattle.disk_layout.specs.Free.{IsFreeFrom, IsWithoutFree}
use Rattle.disk_layout.specs.Map.{IsFree, IsGiven, map_bit, map_count}

-- the bit of a sector that is free from one on and below an end
abbrev bit : ℕ → ℕ → ℕ → ℕ
bit from end s = if (nat_le from s && nat_lt s end) then 1 else 0

bit-below : (from end s : ℕ) → end ≤ s → bit from end s ≡ 0
bit-below from end s h = grind (arith, nat_tests)

bit-here : (from s : ℕ) → from ≤ s → bit from (s + 1) s ≡ 1
bit-here from s h = grind (arith, nat_tests)

bit-other : (from end s : ℕ) → s ≢ end → bit from end s ≡ bit from (end + 1) s
bit-other from end s h = grind (arith, nat_tests)

pub free-start : (bytes : List ℕ) (t from : ℕ) → IsWithoutFree bytes t → IsFreeFrom bytes bytes t from from
free-start bytes t from none = record {
  count = none.count ∙ omega arith;
  bits = λ s h. none.bits s h ∙ sym (empty s);
  counts = λ u ne. refl;
  others = λ u s ne h. refl;
  header = (refl, refl);
}
  where
    empty : (s : ℕ) → bit from (min from (sectors_on t)) s ≡ 0
    empty s = grind (arith, nat_tests)

pub free-past : (old now : List ℕ) (t from i : ℕ) → IsFreeFrom old now t from i → sectors_on t ≤ i
    → IsFreeFrom old now t from (i + 1)
free-past old now t from i h past = record {
  count = h.count ∙ ap (λ e. e - from) same;
  bits = λ s lt. h.bits s lt ∙ ap (λ e. bit from e s) same;
  counts = h.counts;
  others = h.others;
  header = h.header;
}
  where
    same : min i (sectors_on t) ≡ min (i + 1) (sectors_on t)
    same = omega (arith, past)

-- the next sector isn't free yet
pub not-yet : (old now : List ℕ) (t from i : ℕ) (p : Place) → IsFreeFrom old now t from i → place_at t i ≡ Some p
    → ¬ (IsFree now p)
not-yet old now t from i p h at free =
    let here = place_at-some t i p at in
    let lt : p.sector < 24 = omega (arith, p.on_disk, few_sectors p.track) in
    let was : map_bit now t p.sector ≡ 0 = h.bits p.sector lt
    ∙ bit-below from (min i (sectors_on t)) p.sector (omega (arith, here.1)) in
    let same : map_bit now p.track p.sector ≡ 0 = rw here.0 was in
    omega (arith, free, same)

pub free-next : (old now new : List ℕ) (t from i : ℕ) (p : Place) → from ≤ i → IsFreeFrom old now t from i
    → place_at t i ≡ Some p → IsGiven now new p → IsFreeFrom old new t from (i + 1)
free-next old now new t from i p le h at given = by (sym (place_at-some t i p at).0) (sym (place_at-some t i p at).1)
  where
    by : t ≡ p.track → i ≡ p.sector → IsFreeFrom old new t from (i + 1)
    by track sector = record {
      count = omega (
        arith,
        ap (map_count new) track,
        ap (map_count now) track,
        given.count,
        h.count,
        within,
        le,
        few_sectors t,
      );
      bits = bits;
      counts = λ u ne. given.rest.counts u (λ e. ne (e ∙ sym track)) ∙ h.counts u ne;
      others = λ u s ne lt. given.rest.bits u s lt (inl (λ e. ne (e ∙ sym track))) ∙ h.others u s ne lt;
      header = (given.rest.header.0 ∙ h.header.0, given.rest.header.1 ∙ h.header.1);
    }
      where
        within : i < sectors_on t
        within = rw (track, sector) p.on_disk

        bits : (s : ℕ) → s < 24 → map_bit new t s ≡ bit from (min (i + 1) (sectors_on t)) s
        bits s lt = elim (cases_eq s i) [
          | inl e ↦
              let last : min (i + 1) (sectors_on t) ≡ i + 1 = omega (arith, within) in
              ap (λ k. map_bit new t k) e ∙ ap₂ (map_bit new) track sector ∙ given.bit ∙ sym (bit-here from i le)
              ∙ ap₂ (bit from) (sym last) (sym e)
          | inr ne ↦
              let was : min i (sectors_on t) ≡ i = omega (arith, within) in
              let last : min (i + 1) (sectors_on t) ≡ i + 1 = omega (arith, within) in
              given.rest.bits t s lt (inr (λ e. ne (e ∙ sym sector)))
              ∙ h.bits s lt
              ∙ ap (λ e. bit from e s) was
              ∙ bit-other from i s ne
              ∙ ap (λ e. bit from e s) (sym last)
        ]

-- 18/0 of the blank image, made as far as the tracks 1 to n
pub record IsMadeTo (bytes name id : List ℕ) (blocks n : ℕ) : Type 0 where
  pub start : take 4 bytes ≡ 18 ∷ 1 ∷ 65 ∷ 0 ∷ []
  pub counts : (t : ℕ) → 1 ≤ t → t ≤ n → map_count bytes t ≡ sectors_on t - taken_on blocks t
  pub bits : (t s : ℕ) → 1 ≤ t → t ≤ n → s < 24 → map_bit bytes t s ≡ bit (taken_on blocks t) (sectors_on t) s
  pub none : (t : ℕ) → n < t → t ≤ 35 → IsWithoutFree bytes t
  pub names : drop 144 bytes ≡ names_of name id

pub made-track : (old new name id : List ℕ) (blocks n : ℕ) → IsMadeTo old name id blocks n
    → IsFreeFrom old new (n + 1) (taken_on blocks (n + 1)) 24 → IsMadeTo new name id blocks (n + 1)
made-track old new name id blocks n h f = record {
  start = f.header.0 ∙ h.start;
  counts = λ t lo hi. elim (cases_eq t (n + 1)) [
    | inl e ↦ rw e (f.count ∙ ap (λ k. k - taken_on blocks (n + 1)) (whole (n + 1)))
    | inr ne ↦ f.counts t ne ∙ h.counts t lo (omega (arith, hi, ne))
  ];
  bits = λ t s lo hi lt. elim (cases_eq t (n + 1)) [
    | inl e ↦ rw e (f.bits s lt ∙ ap (λ k. bit (taken_on blocks (n + 1)) k s) (whole (n + 1)))
    | inr ne ↦ f.others t s ne lt ∙ h.bits t s lo (omega (arith, hi, ne)) lt
  ];
  none = λ t lo hi.
      let ne : t ≢ n + 1 = omega (arith, lo) in
      let was = h.none t (omega (arith, lo)) hi in
      record { count = f.counts t ne ∙ was.count; bits = λ s lt. f.others t s ne lt ∙ was.bits s lt };
  names = f.header.1 ∙ h.names;
}
  where
    whole : (t : ℕ) → min 24 (sectors_on t) ≡ sectors_on t
    whole t = omega (arith, few_sectors t)

-- the bytes of 18/0 with no sector free
abbrev pub header : List ℕ → List ℕ → List ℕ
header name id = (18 ∷ 1 ∷ 65 ∷ 0 ∷ []) ++ (replicate 140 0 ++ names_of name id)

middle : (front back : List ℕ) (n i : ℕ) → length front ≤ i → i < length front + n
    → get_or (front ++ (replicate n 0 ++ back)) i 0 ≡ 0
middle front back n i lo hi =
    get_or-append_right front (replicate n 0 ++ back) (length front) i 0 refl lo
    ∙ get_or-append (replicate n 0) back 0 (i - length front) (omega (arith, lo, hi, length-replicate {A = ℕ} n 0))
    ∙ get_or-replicate n (i - length front) 0 0 (omega (arith, lo, hi))

pub made-none : (name id : List ℕ) (blocks : ℕ) → IsMadeTo (header name id) name id blocks 0
made-none name id blocks = record {
  start = refl;
  counts = λ t lo hi. absurd (omega arith);
  bits = λ t s lo hi lt. absurd (omega arith);
  none = λ t lo hi. record {
    count = zeros (4 * t) (omega (arith, lo)) (omega (arith, hi));
    bits = λ s lt. ap (λ b. bit_at b (s % 8)) (zeros (4 * t + 1 + s / 8) (omega (arith, lo)) (omega (arith, hi, lt)))
        ∙ bit_at-zero (s % 8);
  };
  names = refl;
}
  where
    zeros : (i : ℕ) → 4 ≤ i → i < 144 → get_or (header name id) i 0 ≡ 0
    zeros i lo hi = middle (18 ∷ 1 ∷ 65 ∷ 0 ∷ []) (names_of name id) 140 i lo hi

-- made as far as the last track
pub made-all : (bytes name id : List ℕ) (blocks n : ℕ) → n ≡ 35 → IsMadeTo bytes name id blocks n
    → IsBlankMap bytes name id blocks
made-all bytes name id blocks n all h = record {
  start = h.start;
  counts = λ t lo hi. h.counts t lo (omega (arith, hi, all));
  bits = λ t s lo hi lt. h.bits t s lo (omega (arith, hi, all)) lt;
  names = h.names;
}
