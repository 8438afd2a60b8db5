-- How many blocks end a commit.
use Rattle.std.proofs.Common.{◌≡◌, ◌+◌, ◌∙◌, ℕ, suc, List, ap, arith, cond, false, refl, true}
use Rattle.std.proofs.lemmas.Bool.{cond-false, cond-true}
use Rattle.image_log.specs.Blocks.{is_last}
use Rattle.image_log.specs.Salvage.{commits_in}

module _ (B : ℕ → List ℕ) where
  pub commits_none : commits_in B 0 ≡ 0
  unfolding commits_in
  commits_none = refl

  commits_suc : (n : ℕ) → commits_in B (suc n) ≡ commits_in B n + cond (is_last (B n)) 1 0
  unfolding commits_in
  commits_suc n = refl

  pub commits_more : (n : ℕ) → is_last (B n) ≡ true → commits_in B (n + 1) ≡ commits_in B n + 1
  commits_more n is =
      let e : n + 1 ≡ suc n = omega arith in
      ap (commits_in B) e ∙ commits_suc n ∙ ap (λ (k : ℕ). commits_in B n + k) (cond-true (is_last (B n)) 1 0 is)

  pub commits_same : (n : ℕ) → is_last (B n) ≡ false → commits_in B (n + 1) ≡ commits_in B n
  commits_same n isnt =
      let e : n + 1 ≡ suc n = omega arith in
      omega (arith, ap (commits_in B) e ∙ commits_suc n ∙ ap (λ (k : ℕ). commits_in B n + k) (cond-false (is_last (B n)) 1 0 isnt))
