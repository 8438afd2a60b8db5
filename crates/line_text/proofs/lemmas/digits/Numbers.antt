-- Numbers at the front of a text, digit by digit, and in a field.
use Rattle.std.proofs.Common.{◌≡◌, ℕ, ◌+◌, ◌*◌, ◌-◌, ◌/◌, ◌%◌, ◌^◌, ◌<◌, ◌≤◌, List, [], ◌∷◌, ◌++◌, length, take, drop}
use Rattle.std.proofs.Common.{get_or, sym, ◌∙◌, ap, ap₂, subst, ◌⊎◌, inl, inr, arith}
use Rattle.std.specs.Prelude.{decimal}
use Rattle.std.specs.Int.{IsInRange, IsOutOfRange}
use Rattle.std.specs.Str.Parse.{AllDigits, digits_value}
use Rattle.std.proofs.lemmas.Bool.Decides.{leb_tells}
use Rattle.std.proofs.lemmas.Fmt.{decimal_is_IsNumeral, decimal_digit, decimal_step, length-decimal-le}
use Rattle.std.proofs.lemmas.Fmt.{decimal_nonempty, first_decimal, decimal_injective}
use Rattle.std.proofs.lemmas.List.{append-nil, get_or-append-add, get_or-drop, get_or-take, length-take-le, take-append-drop}
use Rattle.std.proofs.lemmas.List.{get_or_append_left, get_or_past, take_all, take_more}
use Rattle.std.proofs.lemmas.Str.Parse.{IsNumeralModel, digit_at, digits_value_short, numerals_by_value, tells_digits}
use Rattle.std.proofs.Math.Seq.{take-append_seam, drop-append_seam}
use Rattle.line_text.specs.Numbers.{Leads}

-- std's own words for digits and their value
own : IsNumeralModel (AllDigits 10) (digits_value 10)
own = numerals_by_value (AllDigits 10) tells_digits

-- each byte of a number's text is a digit
decimal_digits : (n k : ℕ) → n < 2 ^ 64 → k < length (decimal n)
    → IsInRange 48 57 (get_or (decimal n) k 0)
decimal_digits n k h below = digit_at (decimal n) k (decimal_is_IsNumeral n h).0.1 below

-- a number with few digits is small
decimal_small : (n k : ℕ) → n < 2 ^ 64 → length (decimal n) ≤ k → n < 10 ^ k
decimal_small n k h short =
    let e = decimal_is_IsNumeral n h in
    subst (λ (m : ℕ). m < 10 ^ k) e.1 (digits_value_short own (decimal n) k e.0.1 short)

-- one more digit
decimal_more : (n d : ℕ) → 0 < n → n ≤ 999999999 → d < 10
    → decimal (n * 10 + d) ≡ decimal n ++ (48 + d) ∷ []
decimal_more n d positive high low =
    let q : (n * 10 + d) / 10 ≡ n = omega arith in
    let r : (n * 10 + d) % 10 ≡ d = omega arith in
    decimal_step (n * 10 + d) (omega arith) (omega arith) ∙ ap₂ (λ a b. decimal a ++ (48 + b) ∷ []) q r

-- a number at the front begins with a digit
pub leads_first : (bytes : List ℕ) (n : ℕ) (rest : List ℕ) → Leads bytes n rest
    → IsInRange 48 57 (get_or bytes 0 0)
leads_first bytes n rest l =
    let h : n < 2 ^ 64 = omega (arith, l.short) in
    let some = decimal_nonempty n h in
    rw (l.text, get_or_append_left (decimal n) rest 0 0 some) (decimal_digits n 0 h some)

-- a number at the front is digits
leads_digits : (bytes : List ℕ) (n : ℕ) (rest : List ℕ) → Leads bytes n rest → (k : ℕ)
    → k < length (decimal n) → IsInRange 48 57 (get_or bytes k 0)
leads_digits bytes n rest l k h =
    rw (l.text, get_or_append_left (decimal n) rest 0 k h) (decimal_digits n k (omega (arith, l.short)) h)

-- the digits at the front are all of the number's
leads_all : (bytes : List ℕ) (n : ℕ) (rest : List ℕ) (i : ℕ) → Leads bytes n rest
    → ((k : ℕ) → k < i → IsInRange 48 57 (get_or bytes k 0)) → i ≤ length (decimal n)
leads_all bytes n rest i l each = elim (leb_tells i (length (decimal n))) [
  | inl h ↦ h.1
  | inr h ↦
      let here : get_or bytes (length (decimal n)) 0 ≡ get_or rest 0 0 =
      ap (λ (bs : List ℕ). get_or bs (length (decimal n)) 0) l.text
      ∙ ap (λ k. get_or (decimal n ++ rest) k 0) (omega arith)
      ∙ get_or-append-add (decimal n) rest 0 0 in
      absurd (l.ends (subst (IsInRange 48 57) here (each (length (decimal n)) h.1)))
]

-- the first i bytes were read as n: none yet, or they are its text
pub record IsReadAs (bytes : List ℕ) (i n : ℕ) : Type 0 where
  pub none : i ≡ 0 → n ≡ 0
  pub text : 0 < i → take i bytes ≡ decimal n
  pub short : i ≤ 10
  pub bound : n ≤ 9999999999

-- nothing was read yet
pub reads_none : (bytes : List ℕ) → IsReadAs bytes 0 0
reads_none bytes = record {
  none = λ e. e;
  text = λ h. absurd (omega (arith, h));
  short = omega arith;
  bound = omega arith;
}

-- what was read is the number at the front, where no digit follows it or nothing does
pub leads_read : (bytes : List ℕ) (i n : ℕ) → IsReadAs bytes i n → 0 < i → ¬ (IsInRange 48 57 (get_or bytes i 0))
    → Leads bytes n (drop i bytes)
leads_read bytes i n r some ends =
    let here : get_or (drop i bytes) 0 0 ≡ get_or bytes i 0 =
    get_or-drop i bytes 0 0 ∙ ap (λ k. get_or bytes k 0) (let s : i + 0 ≡ i = omega arith in s) in
    record {
      short = r.bound;
      text = sym (take-append-drop i bytes) ∙ ap (λ (xs : List ℕ). xs ++ drop i bytes) (r.text some);
      ends = λ digit. ends (subst (IsInRange 48 57) here digit);
    }

pub leads_whole : (bytes : List ℕ) (i n : ℕ) → IsReadAs bytes i n → 0 < i → length bytes ≤ i → Leads bytes n []
leads_whole bytes i n r some all = record {
  short = r.bound;
  text = sym (take_all i bytes all) ∙ r.text some ∙ sym (append-nil (decimal n));
  ends = λ digit. omega (arith, digit.0);
}

-- what was read has as many digits as bytes
read_length : (bytes : List ℕ) (i n : ℕ) → IsReadAs bytes i n → i ≤ length bytes → 0 < i
    → length (decimal n) ≡ i
read_length bytes i n r fits some = sym (ap length (r.text some)) ∙ length-take-le i bytes fits

-- what was read is digits
read_digits : (bytes : List ℕ) (i n : ℕ) → IsReadAs bytes i n → i ≤ length bytes → (k : ℕ) → k < i
    → IsInRange 48 57 (get_or bytes k 0)
read_digits bytes i n r fits k h =
    let some : 0 < i = omega arith in
    let long = read_length bytes i n r fits some in
    let here : get_or (decimal n) k 0 ≡ get_or bytes k 0 =
    ap (λ (bs : List ℕ). get_or bs k 0) (sym (r.text some)) ∙ get_or-take i bytes k 0 h in
    subst (IsInRange 48 57) here (decimal_digits n k (omega (arith, r.bound)) (omega arith))

-- digits up to i, and at i, are digits up to i + 1
digits_more : (bytes : List ℕ) (i : ℕ) → ((k : ℕ) → k < i → IsInRange 48 57 (get_or bytes k 0))
    → IsInRange 48 57 (get_or bytes i 0) → (k : ℕ) → k < i + 1 → IsInRange 48 57 (get_or bytes k 0)
digits_more bytes i each here k h = elim (leb_tells i k) [
  | inl p ↦ let e : i ≡ k = omega arith in subst (λ (j : ℕ). IsInRange 48 57 (get_or bytes j 0)) e here
  | inr p ↦ each k p.1
]

-- one more digit is read
pub read_more : (bytes : List ℕ) (i n : ℕ) → IsReadAs bytes i n → i < length bytes
    → IsInRange 48 57 (get_or bytes i 0) → i < 10 → (0 < i → 0 < n)
    → IsReadAs bytes (i + 1) (n * 10 + (get_or bytes i 0 - 48))
read_more bytes i n r fits digit few positive =
    let d : get_or bytes i 0 - 48 < 10 = omega (arith, digit.1) in
    let glyph : 48 + (get_or bytes i 0 - 48) ≡ get_or bytes i 0 = omega (arith, digit.0) in
    let longer : take (i + 1) bytes ≡ take i bytes ++ get_or bytes i 0 ∷ [] =
    take_more bytes i 0 fits in
    elim (leb_tells 1 i) [
      | inl p ↦
          let long = read_length bytes i n r (omega arith) p.1 in
          let small : n < 10 ^ 9 = decimal_small n 9 (omega (arith, r.bound)) (omega arith) in
          record {
            none = λ e. absurd (omega (arith, e));
            text = λ _. longer ∙ ap₂ (λ (xs : List ℕ) c. xs ++ c ∷ []) (r.text p.1) (sym glyph)
                ∙ sym (decimal_more n _ (positive p.1) (omega arith) d);
            short = omega arith;
            bound = omega arith;
          }
      | inr p ↦
          let e : i ≡ 0 = omega arith in
          let zero_yet : n ≡ 0 = r.none e in
          let alone : n * 10 + (get_or bytes i 0 - 48) ≡ get_or bytes i 0 - 48 = omega arith in
          record {
            none = λ e. absurd (omega (arith, e));
            text = λ _. longer
                ∙ ap₂ (λ (xs : List ℕ) c. xs ++ c ∷ []) (ap (λ k. take k bytes) e) (sym glyph)
                ∙ sym (ap decimal alone ∙ decimal_digit _ d);
            short = omega arith;
            bound = omega arith;
          }
    ]

-- an eleventh digit, or one after a zero at the front, is of no number
pub read_stops : (bytes : List ℕ) (i n m : ℕ) (rest : List ℕ) → IsReadAs bytes i n
    → i < length bytes → IsInRange 48 57 (get_or bytes i 0) → (i ≡ 10) ⊎ ((0 < i) × (n ≡ 0))
    → ¬ (Leads bytes m rest)
read_stops bytes i n m rest r fits digit why l =
    let h : m < 2 ^ 64 = omega (arith, l.short) in
    let long : i + 1 ≤ length (decimal m) =
    leads_all bytes m rest (i + 1) l (digits_more bytes i (read_digits bytes i n r (omega arith)) digit) in
    elim why [
      | inl e ↦ let few : length (decimal m) ≤ 10 = length-decimal-le 10 m (omega arith) (omega (arith, l.short)) h in
          omega arith
      | inr p ↦
          let front : get_or bytes 0 0 ≡ get_or (decimal m) 0 0 =
          ap (λ (bs : List ℕ). get_or bs 0 0) l.text
          ∙ get_or_append_left (decimal m) rest 0 0 (decimal_nonempty m h) in
          let zero : get_or bytes 0 0 ≡ 48 =
          sym (get_or-take i bytes 0 0 p.0)
          ∙ ap (λ (bs : List ℕ). get_or bs 0 0) (r.text p.0 ∙ ap decimal p.1 ∙ decimal_digit 0 (omega arith)) in
          elim (leb_tells 1 m) [
            | inl q ↦ let above : 48 < get_or (decimal m) 0 0 = first_decimal m q.1 h in omega arith
            | inr q ↦ let few : length (decimal m) ≤ 1 = length-decimal-le 1 m (omega arith) (omega arith) h in
                omega arith
          ]
    ]

-- a byte that is no digit
pub no_digit : (c : ℕ) → IsOutOfRange 48 57 c → ¬ (IsInRange 48 57 c)
no_digit c out digit = elim out [ inl h ↦ omega (arith, digit.0) | inr h ↦ omega (arith, digit.1) ]

-- no number stands at the front of no bytes
pub leads_some : (bytes : List ℕ) (n : ℕ) (rest : List ℕ) → Leads bytes n rest → 0 < length bytes
leads_some bytes n rest l = elim (leb_tells 1 (length bytes)) [
  | inl h ↦ h.1
  | inr h ↦ let past : get_or bytes 0 0 ≡ 0 = get_or_past bytes 0 0 (omega arith) in
      omega (arith, (leads_first bytes n rest l).0)
]

-- one number at most stands at the front
pub leads_one : (bytes : List ℕ) (n : ℕ) (rest : List ℕ) (m : ℕ) (tail : List ℕ)
    → Leads bytes n rest → Leads bytes m tail → (n ≡ m) × (rest ≡ tail)
leads_one bytes n rest m tail l k =
    let hn : n < 2 ^ 64 = omega (arith, l.short) in
    let hm : m < 2 ^ 64 = omega (arith, k.short) in
    let one : length (decimal n) ≤ length (decimal m) =
    leads_all bytes m tail (length (decimal n)) k (leads_digits bytes n rest l) in
    let other : length (decimal m) ≤ length (decimal n) =
    leads_all bytes n rest (length (decimal m)) l (leads_digits bytes m tail k) in
    let same : length (decimal n) ≡ length (decimal m) = omega arith in
    let both : decimal n ++ rest ≡ decimal m ++ tail = sym l.text ∙ k.text in
    let fronts : decimal n ≡ decimal m =
    sym (take-append_seam (decimal n) rest) ∙ ap₂ (λ k (xs : List ℕ). take k xs) same both
    ∙ take-append_seam (decimal m) tail in
    let backs : rest ≡ tail =
    sym (drop-append_seam (decimal n) rest) ∙ ap₂ (λ k (xs : List ℕ). drop k xs) same both
    ∙ drop-append_seam (decimal m) tail in
    (decimal_injective n m hn hm fronts, backs)
