-- Empty records made in a block: zeros from a byte on, and then FF where each record begins.
use Rattle.std.proofs.Common.{
  ◌≡◌,
  ◌≢◌,
  ℕ,
  ◌+◌,
  ◌-◌,
  ◌*◌,
  ◌%◌,
  ◌/◌,
  ◌<◌,
  ◌≤◌,
  List,
  inl,
  inr,
  length,
  take,
  drop,
  get_or-set_other,
  get_or-set_same,
  set,
  slice_index,
  sym,
  ◌∙◌,
  ap,
  arith,
}
use Rattle.std.specs.Int.{div_ceil}
use Rattle.std.specs.Prelude.{min, replicate}
use Rattle.std.proofs.lemmas.Bool.{cases_eq, cases_lt}
use Rattle.std.proofs.lemmas.Bool.Decides.{nat_tests}
use Rattle.std.proofs.lemmas.Grind.{div_ceil_times}
use Rattle.std.proofs.lemmas.List.{
  get_or-replicate,
  get_or-append_right,
  get_or-take,
  get_or_append_left,
  length-drop,
  length-take,
  length-replicate,
}
use Rattle.std.proofs.Math.Nat.{lt_of_mul-lt-mul_right, mul-le-mul_right, mul-mod_left}
use Rattle.std.proofs.lemmas.Nat.{div-add-mod'}
use borrow.Rule.Slice.PartMut.{mid_of, put_mid}
use Rattle.d64_image.specs.Images.{Sector}
use Rattle.disk_layout.proofs.lemmas.records.Fillers.{filler-first}
use Rattle.disk_layout.proofs.lemmas.records.Pieces.{row-le}
use Rattle.disk_layout.specs.Records.{filler}

-- bytes from a place on filled with zeros
pub zeros-before : (k n : ℕ) (old ys : Sector) (i : ℕ) → k ≤ length old → i < k
    → slice_index (put_mid k n old ys) i ≡ slice_index old i
zeros-before k n old ys i fits lt =
    let long : length (take k old) ≡ k = omega (arith, length-take k old) in
    get_or_append_left (take k old) _ 0 i (omega (arith, long, lt)) ∙ get_or-take k old i 0 lt

pub zeros-there : (k n : ℕ) (old ys : Sector) (i : ℕ) → length old ≡ 256 → k + n ≡ 256
    → ys ≡ replicate (length (mid_of k n old)) 0 → k ≤ i → i < 256 → slice_index (put_mid k n old ys) i ≡ 0
zeros-there k n old ys i whole size e low lt =
    let first : length (take k old) ≡ k = omega (arith, length-take k old) in
    let part : length (mid_of k n old) ≡ n = omega (arith, length-take n (drop k old), length-drop k old) in
    let long : length ys ≡ n = ap length e ∙ length-replicate (length (mid_of k n old)) 0 ∙ part in
    get_or-append_right (take k old) _ k i 0 first low
    ∙ get_or_append_left ys _ 0 (i - k) (omega (arith, long))
    ∙ ap (λ (z : List ℕ). slice_index z (i - k)) e
    ∙ get_or-replicate (length (mid_of k n old)) (i - k) 0 0 (omega (arith, part))

-- of `total` records of L bytes, those from `begin` to below `end` begin in the 254 data bytes from `at` on, from
-- `first` on
pub record IsSpan (at first L total begin end : ℕ) : Type 0 where
  pub positive : 0 < L
  pub inside : at ≤ first
  pub from : (r : ℕ) → begin ≤ r → first ≤ r * L
  pub start : (r : ℕ) → first ≤ r * L → begin ≤ r
  pub below : (r : ℕ) → r < end → r * L < at + 254
  pub there : (r : ℕ) → r < end → r < total
  pub stop : (r : ℕ) → r < total → r * L < at + 254 → r < end

pub span : (at first L total begin end : ℕ) → 0 < L → at ≤ first → begin ≡ div_ceil first L
    → end ≡ min (div_ceil (at + 254) L) total → IsSpan at first L total begin end
span at first L total begin end pos low b e = record {
  positive = pos;
  inside = low;
  from = λ r h. omega (arith, low_start, mul-le-mul_right L h);
  start = λ r h. let lt : begin * L < (r + 1) * L = omega (arith, high_start, h) in
      omega (arith, lt_of_mul-lt-mul_right L lt);
  below = λ r h. omega (arith, high_stop, row-le r stop L (omega (arith, h, e)));
  there = λ r h. omega (arith, h, e);
  stop = λ r h lt. let less : r * L < stop * L = omega (arith, low_stop, lt) in
      omega (arith, lt_of_mul-lt-mul_right L less, h, e);
}
  where
    stop : ℕ
    stop = div_ceil (at + 254) L

    low_start : first ≤ begin * L
    low_start = rw b ((div_ceil_times first L pos).0)

    high_start : begin * L < first + L
    high_start = rw b ((div_ceil_times first L pos).1)

    low_stop : at + 254 ≤ stop * L
    low_stop = (div_ceil_times (at + 254) L pos).0

    high_stop : stop * L < at + 254 + L
    high_stop = (div_ceil_times (at + 254) L pos).1

filler-between : (L total i : ℕ) → i % L ≢ 0 → filler L total i ≡ 0
filler-between L total i ne = grind (arith, nat_tests)

filler-past : (L total i : ℕ) → total * L ≤ i → filler L total i ≡ 0
filler-past L total i past = grind (arith, nat_tests)

-- bytes that are zeros from `first` on, in which these records are then begun
pub record IsBegun (at first L total begin end : ℕ) (filled new : Sector) : Type 0 where
  pub span : IsSpan at first L total begin end
  pub zeros : (i : ℕ) → 2 + (first - at) ≤ i → i < 256 → slice_index filled i ≡ 0
  pub begun : (r : ℕ) → begin ≤ r → r < end → slice_index new (2 + (r * L - at)) ≡ 255
  pub rest : (k : ℕ) → ((r : ℕ) → begin ≤ r → r < end → k ≢ 2 + (r * L - at)) → slice_index new k ≡ slice_index filled k

module _ {at first L total begin end : ℕ} {filled new : Sector} (b : IsBegun at first L total begin end filled new)
  where
    -- the bytes before stay
    pub begun-kept : (j : ℕ) → at + j < first → slice_index new (2 + j) ≡ slice_index filled (2 + j)
    begun-kept j lt = b.rest (2 + j) (λ r low high. omega (arith, b.span.from r low, lt))

    -- a byte where a record of the file begins, and one where a record would begin behind them
    begun-first : (j r : ℕ) → first ≤ at + j → j < 254 → at + j ≡ r * L → r < total
        → slice_index new (2 + j) ≡ filler L total (at + j)
    begun-first j r low lt e below =
        let here : r * L - at ≡ j = omega (arith, e) in
        ap (λ (n : ℕ). slice_index new (2 + n)) (sym here)
        ∙ b.begun r (b.span.start r (omega (arith, low, e))) (b.span.stop r below (omega (arith, lt, e)))
        ∙ sym (ap (filler L total) e ∙ filler-first L total r below b.span.positive)

    begun-past : (j r : ℕ) → first ≤ at + j → j < 254 → at + j ≡ r * L → total ≤ r
        → slice_index new (2 + j) ≡ filler L total (at + j)
    begun-past j r low lt e past =
        b.rest (2 + j) (λ s from to.
        omega (
          arith,
          row-le s r L (omega (arith, b.span.there s to, past)),
          b.span.from s from,
          b.span.inside,
          b.span.positive,
          e,
        ))
        ∙ b.zeros (2 + j) (omega (arith, low)) (omega (arith, lt))
        ∙ sym (filler-past L total (at + j) (omega (arith, e, mul-le-mul_right L past)))

    -- a byte where none begins
    begun-between : (j : ℕ) → first ≤ at + j → j < 254 → (at + j) % L ≢ 0
        → slice_index new (2 + j) ≡ filler L total (at + j)
    begun-between j low lt ne =
        b.rest (2 + j) (λ s from to same.
        let e : at + j ≡ s * L = omega (arith, same, b.span.from s from, b.span.inside) in
        ne (ap (λ (n : ℕ). n % L) e ∙ mul-mod_left s L))
        ∙ b.zeros (2 + j) (omega (arith, low)) (omega (arith, lt))
        ∙ sym (filler-between L total (at + j) ne)

    pub begun-filled : (j : ℕ) → first ≤ at + j → j < 254 → slice_index new (2 + j) ≡ filler L total (at + j)
    begun-filled j low lt = elim (cases_eq ((at + j) % L) 0) [
      | inl e ↦
          let row : at + j ≡ (at + j) / L * L = omega (arith, div-add-mod' (at + j) L, e) in
          elim (cases_lt ((at + j) / L) total) [
            | inl below ↦ begun-first j ((at + j) / L) low lt row below
            | inr past ↦ begun-past j ((at + j) / L) low lt row past
          ]
      | inr ne ↦ begun-between j low lt ne
    ]

-- one more record is begun: the byte of each so far, and all other bytes
pub begun-more : (x : Sector) (at size begin n : ℕ) → 2 + (n * size - at) < length x
    → ((r : ℕ) → begin ≤ r → r < n → slice_index x (2 + (r * size - at)) ≡ 255)
    → (r : ℕ) → begin ≤ r → r < n + 1 → slice_index (set x (2 + (n * size - at)) 255) (2 + (r * size - at)) ≡ 255
begun-more x at size begin n inside begun r low lt = elim (cases_eq (2 + (r * size - at)) (2 + (n * size - at))) [
  | inl here ↦ rw here (get_or-set_same x (2 + (n * size - at)) 255 0 inside)
  | inr other ↦
      let less : r < n = elim (cases_lt r n) [
        | inl below ↦ below
        | inr above ↦
            let e : r ≡ n = omega (arith, lt, above) in
            absurd (other (ap (λ k. 2 + (k * size - at)) e))
      ] in
      get_or-set_other x (2 + (n * size - at)) (2 + (r * size - at)) 255 0 other ∙ begun r low less
]

pub rest-more : (old x : Sector) (at size begin n : ℕ) → begin ≤ n
    → ((k : ℕ) → ((r : ℕ) → begin ≤ r → r < n → k ≢ 2 + (r * size - at)) → slice_index x k ≡ slice_index old k)
    → (k : ℕ) → ((r : ℕ) → begin ≤ r → r < n + 1 → k ≢ 2 + (r * size - at))
    → slice_index (set x (2 + (n * size - at)) 255) k ≡ slice_index old k
rest-more old x at size begin n low rest k other =
    get_or-set_other x (2 + (n * size - at)) k 255 0 (other n low (omega arith))
    ∙ rest k (λ r from lt. other r from (omega (arith, lt)))
