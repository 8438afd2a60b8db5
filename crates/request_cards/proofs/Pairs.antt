-- Numbers of a fixed width, two digits at a time.
use Rattle.std.proofs.Common.{◌≡◌, ℕ, zero, suc, ◌+◌, ◌*◌, ◌-◌, ◌/◌, ◌%◌, ◌<◌, ◌≤◌, Bool, true, ◌&&◌, T, eqb, List, ◌∷◌}
use Rattle.std.proofs.Common.{◌++◌, codes, drop, length, get_or, set, ap, ap₂, sym, ◌∙◌, inl, inr, arith}
use Rattle.std.proofs.Common.{eq-zero-or-pos, eqb→eq}
use lib.Ieee.Fits.{and_l, and_r}
use Rattle.std.proofs.lemmas.List.{drop-set}
use Rattle.request_cards.proofs.Widths.{fixed_more, fixed_none}
use Rattle.request_cards.specs.CardTexts.{fixed}
use Rattle.request_cards.specs.declared.fixed.TheConstants.{PAIRS}

-- the table holds the digits of each number below this one
abbrev are_pairs : ℕ → Bool
are_pairs zero = true
are_pairs (suc p) = (eqb (get_or PAIRS (p * 2) 0) (48 + p / 10) && eqb (get_or PAIRS (p * 2 + 1) 0) (48 + p % 10)) &&
    are_pairs p

below : (n p : ℕ) → T (are_pairs n) → p < n → (get_or PAIRS (p * 2) 0 ≡ 48 + p / 10)
    × (get_or PAIRS (p * 2 + 1) 0 ≡ 48 + p % 10)
below zero p t h = absurd (omega arith)
below (suc n) p t h =
    elim (eq-zero-or-pos (n - p)) [
      | inl z ↦ let e : p ≡ n = omega arith in let a = and_l _ (are_pairs n) t in
          rw e (eqb→eq _ _ (and_l _ _ a), eqb→eq _ _ (and_r _ _ a))
      | inr g ↦ below n p (and_r _ (are_pairs n) t) (omega arith)
    ]

-- the digits of a number below 100
pub pair_at : (p : ℕ) → p < 100 → (get_or PAIRS (p * 2) 0 ≡ 48 + p / 10) × (get_or PAIRS (p * 2 + 1) 0 ≡ 48 + p % 10)
pair_at p h = below 100 p tt h

-- the last digit of any number
pub last_of_pair : (n : ℕ) → get_or PAIRS (n % 100 * 2 + 1) 0 ≡ 48 + n % 10
last_of_pair n =
    let same : n % 100 % 10 ≡ n % 10 = omega arith in (pair_at (n % 100) (omega arith)).1 ∙ ap (λ d. 48 + d) same

-- two digits less, in front of what was written
pub fixed_two : (w n : ℕ) (tail : List ℕ)
    → fixed (suc (suc w)) n ++ tail ≡ fixed w (n / 100) ++ (48 + n % 100 / 10) ∷ (48 + n % 100 % 10) ∷ tail
fixed_two w n tail =
    let left : n / 10 / 10 ≡ n / 100 = omega arith in
    let tens : n / 10 % 10 ≡ n % 100 / 10 = omega arith in
    let ones : n % 10 ≡ n % 100 % 10 = omega arith in
    fixed_more (suc w) n tail ∙ fixed_more w (n / 10) ((48 + n % 10) ∷ tail)
    ∙ rw (left, tens, ones) λ i. fixed w (n / 100) ++ (48 + n % 100 / 10) ∷ (48 + n % 100 % 10) ∷ tail

-- a number of at most four digits has five zeros in front
pub nine_of_four : (n : ℕ) (tail : List ℕ) → n < 10000 → fixed 9 n ++ tail ≡ codes "00000" ++ (fixed 4 n ++ tail)
unfolding fixed
nine_of_four n tail few =
    let none : n / 100 / 100 ≡ 0 = omega (arith, few) in
    let two : List ℕ = (48 + n % 100 / 10) ∷ (48 + n % 100 % 10) ∷ tail in
    let four : List ℕ = (48 + n / 100 % 100 / 10) ∷ (48 + n / 100 % 100 % 10) ∷ two in
    fixed_two 7 n tail ∙ fixed_two 5 (n / 100) two ∙ ap (λ k. fixed 5 k ++ four) none
    ∙ ap (λ xs. codes "00000" ++ xs) (sym (fixed_two 2 n tail ∙ fixed_two 0 (n / 100) two
    ∙ ap (λ xs. xs ++ four) (fixed_none (n / 100 / 100))))

-- two more digits are written
pub fixed_two_more : (text : List ℕ) (w i n end : ℕ) (room new : List ℕ)
    → text ≡ fixed (w - 2 * i) n ++ drop (end - 2 * i) room → i < w / 2 → w ≤ end
    → drop (end - 2 * i - 2) new ≡ (48 + n % 100 / 10) ∷ (48 + n % 100 % 10) ∷ drop (end - 2 * i - 2 + 2) room
    → text ≡ fixed (w - 2 * (i + 1)) (n / 100) ++ drop (end - 2 * (i + 1)) new
fixed_two_more text w i n end room new so_far more fits written =
    let left : ℕ = w - 2 * (i + 1) in
    let width : w - 2 * i ≡ suc (suc left) = omega arith in
    let behind : end - 2 * i - 2 + 2 ≡ end - 2 * i = omega arith in
    let here : end - 2 * i - 2 ≡ end - 2 * (i + 1) = omega arith in
    so_far ∙ ap (λ v. fixed v n ++ drop (end - 2 * i) room) width ∙ fixed_two left n (drop (end - 2 * i) room)
    ∙ ap (λ k. fixed left (n / 100) ++ (48 + n % 100 / 10) ∷ (48 + n % 100 % 10) ∷ drop k room) (sym behind)
    ∙ ap (λ xs. fixed left (n / 100) ++ xs) (sym written) ∙ ap (λ k. fixed left (n / 100) ++ drop k new) here

-- no digit is left
pub fixed_even : (text : List ℕ) (w i n end : ℕ) (room : List ℕ)
    → text ≡ fixed (w - 2 * i) n ++ drop (end - 2 * i) room → w ≡ 2 * i → drop (end - w) room ≡ text
fixed_even text w i n end room so_far all =
    let none : w - 2 * i ≡ 0 = omega arith in
    let here : end - 2 * i ≡ end - w = omega arith in
    sym (so_far ∙ ap (λ v. fixed v n ++ drop (end - 2 * i) room) none
    ∙ ap (λ xs. xs ++ drop (end - 2 * i) room) (fixed_none n) ∙ ap (λ k. drop k room) here)

-- one digit is left
pub fixed_odd : (text : List ℕ) (w i n end : ℕ) (room : List ℕ) (digit : ℕ)
    → text ≡ fixed (w - 2 * i) n ++ drop (end - 2 * i) room → w ≡ 2 * i + 1 → w ≤ end → end ≤ length room
    → digit ≡ 48 + n % 10 → drop (end - w) (set room (end - w) digit) ≡ text
fixed_odd text w i n end room digit so_far all fits long last =
    let one : w - 2 * i ≡ 1 = omega arith in
    let here : end - 2 * i ≡ end - w + 1 = omega arith in
    drop-set room (end - w) digit (omega arith) ∙ ap (λ d. d ∷ drop (end - w + 1) room) last
    ∙ sym (so_far ∙ ap₂ (λ v k. fixed v n ++ drop k room) one here ∙ fixed_more 0 n (drop (end - w + 1) room)
    ∙ ap (λ xs. xs ++ (48 + n % 10) ∷ drop (end - w + 1) room) (fixed_none (n / 10)))
