-- Sectors past track 35, one after another.
use Rattle.std.proofs.Common.{◌≡◌, ◌≤◌, ◌+◌, ◌++◌, ◌∷◌, [], ℕ, zero, suc, List, ap, arith, subst, sym, ◌∙◌}
use Rattle.std.specs.List.{range_with_len}
use Rattle.std.specs.Prelude.{filter}
use Rattle.std.proofs.lemmas.List.Elements.{filter-append}
use Rattle.long_chains.specs.Sectors.{is_misread, misread_past}

-- one number more
range-suc : (a n : ℕ) → range_with_len a (suc n) ≡ range_with_len a n ++ (a + n) ∷ []
range-suc a zero = let at : a ≡ a + 0 = omega arith in ap (λ (k : ℕ). k ∷ []) at
range-suc a (suc n) =
    let at : a + 1 + n ≡ a + suc n = omega arith in
    ap (λ (ks : List ℕ). a ∷ ks) (range-suc (a + 1) n ∙ ap (λ (k : ℕ). range_with_len (a + 1) n ++ k ∷ []) at)

range-more : (a n : ℕ) → range_with_len a (n + 1) ≡ range_with_len a n ++ (a + n) ∷ []
range-more a n = let next : n + 1 ≡ suc n = omega arith in ap (range_with_len a) next ∙ range-suc a n

-- one sector more, which was read or wasn't
pub misread-next : (image old new : List ℕ) (n : ℕ) → old ≡ filter (is_misread image) (range_with_len 683 n)
    → new ≡ old ++ filter (is_misread image) ((683 + n) ∷ []) → new ≡ filter (is_misread image) (range_with_len 683 (n + 1))
misread-next image old new n before more =
    more ∙ ap (λ (ns : List ℕ). ns ++ filter (is_misread image) ((683 + n) ∷ [])) before
    ∙ sym (ap (filter (is_misread image)) (range-more 683 n)
    ∙ filter-append (is_misread image) (range_with_len 683 n) ((683 + n) ∷ []))

-- and all of them
pub misread-all : (image ns : List ℕ) (n : ℕ) → n ≡ 119 → ns ≡ filter (is_misread image) (range_with_len 683 n)
    → ns ≡ misread_past image
unfolding misread_past
misread-all image ns n all are = are ∙ ap (λ (k : ℕ). filter (is_misread image) (range_with_len 683 k)) all
