-- The last block that has more than zeros says whether one torn commit is all that stands after the first ones.
use Rattle.std.proofs.Common.{◌≡◌, ◌≤◌, ◌<◌, ◌+◌, ◌-◌, ◌&&◌, ℕ, suc, List, arith, false, inl, inr, ⊎_elim}
use Rattle.std.proofs.lemmas.Bool.{cases_lt}
use Rattle.image_log.specs.Blocks.{IsBlank, block_at, is_last, is_whole}
use Rattle.image_log.specs.Recovered.{EndsTorn}

module _ (f : List ℕ) (end w : ℕ) (within : w ≤ 1024) (blank : (q : ℕ) → w ≤ q → q < 1024 → IsBlank (block_at f q)) where
  -- none of the blocks before the last written one ends the commit
  abbrev pub Unended : Type 0
  Unended = (p : ℕ) → end ≤ p → p < w - 1 → is_whole p (block_at f p) && is_last (block_at f p) ≡ false

  pub some_ends : w ≤ end + 46 → Unended → EndsTorn f end
  some_ends near none q from low = elim (cases_lt q w) [
    | inl inside ↦ inr (record {
      near = omega (arith, inside, near);
      unended = λ p at before. none p at (omega (arith, before, inside));
    })
    | inr past ↦ inl (blank q past low)
  ]

  pub none_stands : w ≤ end → EndsTorn f end
  none_stands few q from low = inl (blank q (omega (arith, few, from)) low)

  pub ends_last : ((q : ℕ) → end ≤ q → suc q ≡ w → IsBlank (block_at f q) → ⊥) → end < w → EndsTorn f end
      → (w ≤ end + 46) × Unended
  ends_last last some ends = ⊎_elim
      (λ none. absurd (last (w - 1) (omega (arith, some)) (omega (arith, some)) none))
      (λ torn. (omega (arith, torn.near, some), λ p at before. torn.unended p at before))
      (ends (w - 1) (omega (arith, some)) (omega (arith, some, within)))
