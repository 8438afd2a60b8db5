-- The first bytes of a list, and so many more.
use Rattle.std.proofs.Common.{◌≡◌, ◌+◌, ◌++◌, ℕ, zero, suc, List, [], ◌∷◌, ap, arith, drop, sym, take, ◌∙◌}
use Rattle.std.proofs.lemmas.List.{take_all}

-- so many bytes, and so many more of the rest
pub take-more : (n m : ℕ) (xs : List ℕ) → take (n + m) xs ≡ take n xs ++ take m (drop n xs)
take-more zero m xs = let same : 0 + m ≡ m = omega arith in ap (λ k. take k xs) same
take-more (suc n) m [] =
    let on : suc n + m ≡ suc (n + m) = omega arith in ap (λ k. take k []) on ∙ sym (take_all m [] (omega arith))
take-more (suc n) m (x ∷ xs) =
    let on : suc n + m ≡ suc (n + m) = omega arith in ap (λ k. take k (x ∷ xs)) on
    ∙ ap (λ ys. x ∷ ys) (take-more n m xs)
