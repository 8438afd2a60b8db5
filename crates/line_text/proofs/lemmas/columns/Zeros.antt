-- Bytes without the zeros at their end, and more after them.
use Rattle.std.proofs.Common.{◌≡◌, ◌≤◌, ◌∙◌, ℕ, zero, suc, List, [], ◌∷◌, ◌++◌, ap, arith, length, refl}
use Rattle.std.specs.Prelude.{replicate}
use Rattle.line_text.specs.bytes.Texts.{kept_before, trimmed}

-- zeros alone
pub zeros-none : (n : ℕ) → trimmed (replicate n 0) ≡ []
unfolding trimmed
zeros-none zero = refl
zeros-none (suc n) = ap (kept_before 0) (zeros-none n)

kept-all : (b : ℕ) (xs : List ℕ) → 1 ≤ length xs → kept_before b xs ≡ b ∷ xs
kept-all b [] some = absurd (omega (arith, some))
kept-all b (x ∷ xs) some = refl

kept-suc : (b : ℕ) (xs : List ℕ) → kept_before (suc b) xs ≡ suc b ∷ xs
kept-suc b [] = refl
kept-suc b (x ∷ xs) = refl

-- what was cut off are zeros
pub record HasZeros (bytes kept : List ℕ) : Type 0 where
  pub count : ℕ
  pub is : bytes ≡ kept ++ replicate count 0

zeros-before : (b : ℕ) (bytes kept : List ℕ) → HasZeros bytes kept → HasZeros (b ∷ bytes) (kept_before b kept)
zeros-before zero bytes [] has = record { count = suc has.count; is = ap (λ (xs : List ℕ). 0 ∷ xs) has.is }
zeros-before (suc b) bytes [] has = record { count = has.count; is = ap (λ (xs : List ℕ). suc b ∷ xs) has.is }
zeros-before b bytes (x ∷ xs) has = record { count = has.count; is = ap (λ (ys : List ℕ). b ∷ ys) has.is }

pub tail-zeros : (bytes : List ℕ) → HasZeros bytes (trimmed bytes)
unfolding trimmed
tail-zeros [] = record { count = 0; is = refl }
tail-zeros (b ∷ bytes) = zeros-before b bytes (trimmed bytes) (tail-zeros bytes)

-- bytes before what has one that isn't 0
pub trimmed-ahead : (before bytes : List ℕ) → 1 ≤ length (trimmed bytes) → trimmed (before ++ bytes) ≡ before ++ trimmed bytes
unfolding trimmed
trimmed-ahead [] bytes some = refl
trimmed-ahead (b ∷ before) bytes some =
    ap (kept_before b) (trimmed-ahead before bytes some) ∙ kept-all b (before ++ trimmed bytes) (long before)
  where
    long : (before : List ℕ) → 1 ≤ length (before ++ trimmed bytes)
    long [] = some
    long (b ∷ before) = omega arith

-- bytes after the last one that isn't 0
stays-before : (b : ℕ) (kept rest : List ℕ) → (1 ≤ length kept → trimmed (kept ++ rest) ≡ kept ++ trimmed rest)
    → 1 ≤ length (kept_before b kept) → trimmed (kept_before b kept ++ rest) ≡ kept_before b kept ++ trimmed rest
unfolding trimmed
stays-before zero [] rest stays some = absurd (omega (arith, some))
stays-before (suc b) [] rest stays some = kept-suc b (trimmed rest)
stays-before b (x ∷ xs) rest stays some = ap (kept_before b) (stays (omega arith))

pub trimmed-stays : (bytes rest : List ℕ) → 1 ≤ length (trimmed bytes)
    → trimmed (trimmed bytes ++ rest) ≡ trimmed bytes ++ trimmed rest
unfolding trimmed
trimmed-stays [] rest some = absurd (omega (arith, some))
trimmed-stays (b ∷ bytes) rest some = stays-before b (trimmed bytes) rest (trimmed-stays bytes rest) some
