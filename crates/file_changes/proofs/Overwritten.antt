-- Bytes that are written over others: which change, and which stay.
use Rattle.std.proofs.Common.{ℕ, ◌≡◌, ◌≢◌, ◌<◌, ◌≤◌, ◌+◌, ◌-◌, ◌*◌, ◌⊎◌, inl, inr, ◌++◌, List, ap, arith, drop, length}
use Rattle.std.proofs.Common.{length-append, slice_index, slice_range, sym, take, ◌∙◌}
use Rattle.std.proofs.lemmas.Bool.{cases_lt}
use Rattle.std.proofs.lemmas.Grind.{same_number_lists}
use Rattle.std.proofs.lemmas.List.{get_or-append_right, get_or-drop, get_or-take, length-drop, length-take-le}
use Rattle.std.proofs.Math.ListN.{get_or-append}
use Rattle.d64_image.specs.Offsets.{overwritten}
use Rattle.disk_layout.proofs.lemmas.counts.CountWrites.{slot-byte}
use Rattle.disk_layout.proofs.lemmas.counts.Counts.{range-piece}
use Rattle.disk_layout.proofs.lemmas.records.Pieces.{length-piece, piece-same}

module _ (x new : List ℕ) (at : ℕ) (fits : at + length new ≤ length x) where
  front : length (take at x) ≡ at
  front = length-take-le at x (omega (arith, fits))

  both : length (take at x ++ new) ≡ at + length new
  both = length-append (take at x) new ∙ ap (λ (n : ℕ). n + length new) front

  pub over-long : length (overwritten x at new) ≡ length x
  over-long = omega (
    arith,
    fits,
    both,
    length-append (take at x ++ new) (drop (at + length new) x),
    length-drop (at + length new) x,
  )

  pub over-before : (i : ℕ) → i < at → slice_index (overwritten x at new) i ≡ slice_index x i
  over-before i lt = get_or-append (take at x ++ new) (drop (at + length new) x) 0 i (omega (arith, both, lt))
      ∙ get_or-append (take at x) new 0 i (omega (arith, front, lt)) ∙ get_or-take at x i 0 lt

  pub over-in : (i : ℕ) → at ≤ i → i < at + length new → slice_index (overwritten x at new) i ≡ slice_index new (i - at)
  over-in i le lt = get_or-append (take at x ++ new) (drop (at + length new) x) 0 i (omega (arith, both, lt))
      ∙ get_or-append_right (take at x) new at i 0 front le

  pub over-behind : (i : ℕ) → at + length new ≤ i → slice_index (overwritten x at new) i ≡ slice_index x i
  over-behind i le =
      let k : ℕ = i - (at + length new) in
      get_or-append_right (take at x ++ new) (drop (at + length new) x) (at + length new) i 0 both le
      ∙ get_or-drop (at + length new) x k 0
      ∙ ap (slice_index x) (omega (arith, le))

  pub over-other : (i : ℕ) → (i < at) ⊎ (at + length new ≤ i) → slice_index (overwritten x at new) i ≡ slice_index x i
  over-other i (inl lt) = over-before i lt
  over-other i (inr le) = over-behind i le

-- a slot of a sector in which bytes of one slot were written over
module _ (x new : List ℕ) (n at : ℕ) (size : length x ≡ 256) (low : n < 8) (fits : at + length new ≤ 32) where
  all : 32 * n + at + length new ≤ length x
  all = omega (arith, size, low, fits)

  abbrev y : List ℕ
  y = overwritten x (32 * n + at) new

  long : length y ≡ 256
  long = over-long x new (32 * n + at) all ∙ size

  -- the other seven slots have their bytes
  pub over-slots : (k : ℕ) → k < 8 → k ≢ n → slice_range x (32 * k) (32 * k + 32)
      ≡ slice_range (overwritten x (32 * n + at) new) (32 * k) (32 * k + 32)
  over-slots k lt ne = range-piece x k ∙ piece-same 32 k x y (omega (arith, size, lt)) (omega (arith, long, lt))
      (λ i a b. sym (over-other x new (32 * n + at) all i (outside i a b))) ∙ sym (range-piece y k)
    where
      outside : (i : ℕ) → k * 32 ≤ i → i < k * 32 + 32 → (i < 32 * n + at) ⊎ (32 * n + at + length new ≤ i)
      outside i a b = elim (cases_lt k n) [ inl c ↦ inl (omega (arith, a, b, c)) | inr c ↦ inr (omega (arith, a, b, c, ne, fits)) ]

  -- and this one has them over its own
  pub over-slot : slice_range (overwritten x (32 * n + at) new) (32 * n) (32 * n + 32)
      ≡ overwritten (slice_range x (32 * n) (32 * n + 32)) at new
  over-slot = same_number_lists _ _ (lx ∙ sym ly) (λ j d. same j (omega (arith, lx, d)))
    where
      lx : length (slice_range y (32 * n) (32 * n + 32)) ≡ 32
      lx = ap length (range-piece y n) ∙ length-piece 32 n y (omega (arith, long, low))

      lz : length (slice_range x (32 * n) (32 * n + 32)) ≡ 32
      lz = ap length (range-piece x n) ∙ length-piece 32 n x (omega (arith, size, low))

      room : at + length new ≤ length (slice_range x (32 * n) (32 * n + 32))
      room = omega (arith, lz, fits)

      ly : length (overwritten (slice_range x (32 * n) (32 * n + 32)) at new) ≡ 32
      ly = over-long (slice_range x (32 * n) (32 * n + 32)) new at room ∙ lz

      same : (j : ℕ) → j < 32 → slice_index (slice_range y (32 * n) (32 * n + 32)) j
          ≡ slice_index (overwritten (slice_range x (32 * n) (32 * n + 32)) at new) j
      same j lt = slot-byte y n j lt ∙ elim (cases_lt j at) [
        | inl c ↦ over-before x new (32 * n + at) all (32 * n + j) (omega (arith, c)) ∙ sym (slot-byte x n j lt)
            ∙ sym (over-before (slice_range x (32 * n) (32 * n + 32)) new at room j c)
        | inr c ↦ elim (cases_lt j (at + length new)) [
          | inl d ↦ over-in x new (32 * n + at) all (32 * n + j) (omega (arith, c)) (omega (arith, d))
              ∙ ap (slice_index new) (omega (arith, c))
              ∙ sym (over-in (slice_range x (32 * n) (32 * n + 32)) new at room j (omega (arith, c)) d)
          | inr d ↦ over-behind x new (32 * n + at) all (32 * n + j) (omega (arith, d)) ∙ sym (slot-byte x n j lt)
              ∙ sym (over-behind (slice_range x (32 * n) (32 * n + 32)) new at room j (omega (arith, d)))
        ]
      ]
