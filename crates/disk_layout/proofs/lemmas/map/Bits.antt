-- One bit of the map turned over, and its track's count replaced.
use Rattle.std.proofs.Common.{
  IsTrue,
  List,
  ap,
  arith,
  bit_and,
  bit_xor,
  drop,
  eqb,
  get_or,
  get_or-set_other,
  get_or-set_same,
  inl,
  inr,
  length,
  refl,
  set,
  suc,
  sym,
  take,
  zero,
  ℕ,
  ◌*◌,
  ◌+◌,
  ◌-◌,
  ◌<◌,
  ◌↔◌,
  ◌∙◌,
  ◌≡◌,
  ◌≢◌,
  ◌≤◌,
  ◌⊎◌,
  min,
}
use lib.Bits.{and_mask}
use Rattle.std.proofs.lemmas.Bool.{cases_eq, eq-eqb, eqb-true}
use Rattle.std.proofs.lemmas.Grind.{same_number_lists}
use Rattle.std.proofs.lemmas.List.{get_or-drop, get_or-take, length-drop, length-set, length-take}
use Rattle.std.proofs.lemmas.Nat.Bits.{bit_at-lt, bit_at-pow_other, bit_at-pow_same, bit_at_xor}
use Rattle.std.specs.Int.{bit_at}
use Rattle.std.specs.Prelude.{◌^◌, ◌%◌, ◌/◌}
use Rattle.d64_image.proofs.Places.{track_fits, track_from_1, few_sectors}
use Rattle.d64_image.specs.declared.place.Place.{Place}
use Rattle.disk_layout.specs.Map.{IsFree, IsGiven, IsSameBut, IsTaken, map_bit, map_count}

-- the bytes of a place's track are in the sector
pub count-inside : (p : Place) (t : ℕ) → t ≡ p.track → 4 * t < 256
count-inside p t same = omega (arith, same, track_fits p)

pub bits-inside : (p : Place) (t s : ℕ) → t ≡ p.track → s ≡ p.sector → 4 * t + 1 + s / 8 < 256
bits-inside p t s track sector = omega (arith, track, sector, track_fits p, p.on_disk, few_sectors p.track)

-- `(byte >> k) & 1 == 1`
pub free-bit : (x : List ℕ) (p : Place) (t s : ℕ) → t ≡ p.track → s ≡ p.sector
    → (IsTrue (eqb (bit_and (get_or x (4 * t + 1 + s / 8) 0 / 2 ^ (s % 8)) 1) 1)) ↔ IsFree x p
free-bit x p t s track sector =
    let byte = get_or x (4 * p.track + 1 + p.sector / 8) 0 in
    let lowest = and_mask (byte / 2 ^ (p.sector % 8)) 1 in
    rw (track, sector) (λ e. sym lowest ∙ eqb-true _ _ e, λ free. eq-eqb _ _ (lowest ∙ free))

-- `1 << k` at eight bits
pow-small : (k : ℕ) → k < 8 → 1 * 2 ^ k % 256 ≡ 2 ^ k
pow-small zero h = refl
pow-small (suc zero) h = refl
pow-small (suc (suc zero)) h = refl
pow-small (suc (suc (suc zero))) h = refl
pow-small (suc (suc (suc (suc zero)))) h = refl
pow-small (suc (suc (suc (suc (suc zero))))) h = refl
pow-small (suc (suc (suc (suc (suc (suc zero)))))) h = refl
pow-small (suc (suc (suc (suc (suc (suc (suc zero))))))) h = refl
pow-small (suc (suc (suc (suc (suc (suc (suc (suc k)))))))) h = absurd (omega arith)

-- the map after the two stores: the count is n, and the bit is the other one
abbrev pub turned : List ℕ → ℕ → ℕ → ℕ → List ℕ
turned x t s n = set (set x (4 * t) n) (4 * t + 1 + s / 8) (bit_xor (get_or (set x (4 * t) n) (4 * t + 1 + s / 8) 0)
    (1 * 2 ^ (s % 8) % 256))

module _ (x : List ℕ) (p : Place) (n : ℕ) (long : length x ≡ 256) where
  abbrev t : ℕ
  t = p.track

  abbrev s : ℕ
  s = p.sector

  abbrev at : ℕ
  at = 4 * p.track + 1 + p.sector / 8

  abbrev y : List ℕ
  y = set x (4 * p.track) n

  low : t ≤ 35
  low = omega (arith, track_fits p)

  small : s < 21
  small = omega (arith, p.on_disk, few_sectors p.track)

  y-at : get_or y at 0 ≡ get_or x at 0
  y-at = get_or-set_other x (4 * t) at n 0 (omega arith)

  byte-at : get_or (turned x t s n) at 0 ≡ bit_xor (get_or x at 0) (2 ^ (s % 8))
  byte-at =
      let inside : at < length y = omega (arith, length-set x (4 * t) n, long, low, small) in
      get_or-set_same y at (bit_xor (get_or y at 0) (1 * 2 ^ (s % 8) % 256)) 0 inside
      ∙ cc (y-at, pow-small (s % 8) (omega arith))

  byte-other : (i : ℕ) → i ≢ at → i ≢ 4 * t → get_or (turned x t s n) i 0 ≡ get_or x i 0
  byte-other i a b = get_or-set_other y at i (bit_xor (get_or y at 0) (1 * 2 ^ (s % 8) % 256)) 0 a
      ∙ get_or-set_other x (4 * t) i n 0 b

  pub count-now : map_count (turned x t s n) t ≡ n
  count-now =
      let inside : 4 * t < length x = omega (arith, long, low) in
      get_or-set_other y at (4 * t) (bit_xor (get_or y at 0) (1 * 2 ^ (s % 8) % 256)) 0 (omega arith)
      ∙ get_or-set_same x (4 * t) n 0 inside

  pub bit-now : map_bit (turned x t s n) t s ≡ (map_bit x t s + 1) % 2
  bit-now =
      ap (λ v. bit_at v (s % 8)) byte-at
      ∙ bit_at_xor (get_or x at 0) (2 ^ (s % 8)) (s % 8)
      ∙ ap (λ b. (bit_at (get_or x at 0) (s % 8) + b) % 2) (bit_at-pow_same (s % 8))

  -- each other bit is in another byte, or is another bit of the same byte
  other-bit : (t' s' : ℕ) → s' < 24 → (t' ≢ t) ⊎ (s' ≢ s) → map_bit (turned x t s n) t' s' ≡ map_bit x t' s'
  other-bit t' s' there apart = elim (cases_eq (4 * t' + 1 + s' / 8) at) [
    | inr other ↦ ap (λ v. bit_at v (s' % 8)) (byte-other (4 * t' + 1 + s' / 8) other (omega (arith, there)))
    | inl e ↦
        let tracks : t' ≡ t = omega (arith, e, there, small) in
        let bits : s' % 8 ≢ s % 8 = λ d. either tracks apart (omega (arith, e, tracks, d)) in
        ap (λ i. bit_at (get_or (turned x t s n) i 0) (s' % 8)) e
        ∙ ap (λ v. bit_at v (s' % 8)) byte-at
        ∙ bit_at_xor (get_or x at 0) (2 ^ (s % 8)) (s' % 8)
        ∙ ap (λ b. (bit_at (get_or x at 0) (s' % 8) + b) % 2) (bit_at-pow_other (s % 8) (s' % 8) bits)
        ∙ same-bit (get_or x at 0) (s' % 8)
        ∙ ap (λ i. bit_at (get_or x i 0) (s' % 8)) (sym e)
  ]
    where
      either : t' ≡ t → (t' ≢ t) ⊎ (s' ≢ s) → s' ≡ s → ⊥
      either a (inl ne) b = ne a
      either a (inr ne) b = ne b

      same-bit : (m i : ℕ) → (bit_at m i + 0) % 2 ≡ bit_at m i
      same-bit m i = omega (arith, bit_at-lt m i)

  -- the bytes outside 4 to 143 stay
  bytes-same : (i : ℕ) → (i < 4) ⊎ (144 ≤ i) → get_or (turned x t s n) i 0 ≡ get_or x i 0
  bytes-same i (inl h) = byte-other i (omega (arith, h, track_from_1 p)) (omega (arith, h, track_from_1 p))
  bytes-same i (inr h) = byte-other i (omega (arith, low, small)) (omega (arith, low))

  long-now : length (turned x t s n) ≡ 256
  long-now = length-set y at (bit_xor (get_or y at 0) (1 * 2 ^ (s % 8) % 256)) ∙ length-set x (4 * t) n ∙ long

  pub turned-same : IsSameBut x (turned x t s n) p
  turned-same = record {
    bits = other-bit;
    counts = λ t' ne. byte-other (4 * t') (omega (arith, small)) (omega (arith, ne));
    header = (head, tail);
  }
    where
      head : take 4 (turned x t s n) ≡ take 4 x
      head = same_number_lists (take 4 (turned x t s n)) (take 4 x) (length-take 4 (turned x t s n)
          ∙ cc (long, long-now) ∙ sym (length-take 4 x)) (λ j h.
          let below : j < 4 = omega (arith, h, length-take 4 (turned x t s n)) in
          get_or-take 4 (turned x t s n) j 0 below ∙ bytes-same j (inl below) ∙ sym (get_or-take 4 x j 0 below))

      tail : drop 144 (turned x t s n) ≡ drop 144 x
      tail = same_number_lists (drop 144 (turned x t s n)) (drop 144 x) (length-drop 144 (turned x t s n)
          ∙ cc (long, long-now) ∙ sym (length-drop 144 x)) (λ j h.
          get_or-drop 144 (turned x t s n) j 0 ∙ bytes-same (144 + j) (inr (omega arith)) ∙ sym (get_or-drop 144 x j 0))

-- a free sector is taken
pub turned-taken : (x : List ℕ) (p : Place) (n : ℕ) → length x ≡ 256 → IsFree x p → n ≡ map_count x p.track - 1
    → IsTaken x (turned x p.track p.sector n) p
turned-taken x p n long free count = record {
  bit = bit-now x p n long ∙ ap (λ b. (b + 1) % 2) free;
  count = count-now x p n long ∙ count;
  rest = turned-same x p n long;
}

-- a sector that isn't free is given back
pub turned-given : (x : List ℕ) (p : Place) (n : ℕ) → length x ≡ 256 → ¬ (IsFree x p)
    → n ≡ min (map_count x p.track + 1) 255 → IsGiven x (turned x p.track p.sector n) p
turned-given x p n long not count = record {
  bit = bit-now x p n long ∙ ap (λ b. (b + 1) % 2) zero-bit;
  count = count-now x p n long ∙ count;
  rest = turned-same x p n long;
}
  where
    zero-bit : map_bit x p.track p.sector ≡ 0
    zero-bit = let ne : map_bit x p.track p.sector ≢ 1 = not in
        omega (arith, ne, bit_at-lt (get_or x (4 * p.track + 1 + p.sector / 8) 0) (p.sector % 8))
