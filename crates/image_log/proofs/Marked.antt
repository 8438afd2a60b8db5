-- The mark leaves every block as it was.
use Rattle.std.proofs.Common.{◌≡◌, ◌≤◌, ◌<◌, ◌+◌, ◌*◌, ◌∙◌, ℕ, List, [], ◌∷◌, ap, arith, length, slice_index, sym, eqb, true, not, inl, inr, ◌&&◌, false, subst, ⊎_elim}
use Rattle.image_log.specs.Blocks.{block_at, committed, first_commit, is_last, is_whole, replayed}
use Rattle.image_log.specs.Files.{Mixed, overwritten}
use Rattle.image_log.specs.Recovered.{EndsTorn, IsLeft, base_end, base_of, blank, commits_end, is_marked, recovered, whole_blocks}
use Rattle.image_log.proofs.Commits.{new_each}
use Rattle.image_log.proofs.Runs.{block_is, committed_alike, committed_few, first_alike, first_few, replayed_alike, same_parts, whole_alike, whole_few}

module _ (f : List ℕ) (size : length f ≡ 4198400) where
  module _ (c : List ℕ) (mixed : Mixed 4194304 (1 ∷ []) f c) where
    same_block : (q : ℕ) → q < 1024 → block_at c q ≡ block_at f q
    same_block q low =
        block_is c q
        ∙ same_parts c f (4096 * q) (4096 * q) 4096 (omega (arith, mixed.size, size)) (omega (arith, size))
        (λ i few. mixed.before (4096 * q + i) (omega arith))
        ∙ sym (block_is f q)

    same_whole : whole_blocks c ≡ whole_blocks f
    same_whole = whole_alike (block_at c) (block_at f) 0 1024 (λ q low.
        let e : 0 + q ≡ q = omega arith in
        ap (block_at c) e ∙ same_block q low ∙ ap (block_at f) (sym e))

    few : whole_blocks f ≤ 1024
    few = whole_few (block_at f) 0 1024

    same_base_end : base_end c ≡ base_end f
    same_base_end = ap (first_commit (block_at c)) same_whole
        ∙ first_alike (block_at c) (block_at f) (whole_blocks f) (λ q low. same_block q (omega (arith, low, few)))

    few_committed : committed (block_at f) (whole_blocks f) ≤ whole_blocks f
    few_committed = committed_few (block_at f) (whole_blocks f)

    pub same_recovered : recovered c ≡ recovered f
    same_recovered =
        ap (replayed (block_at c) blank) (ap (committed (block_at c)) same_whole
        ∙ committed_alike (block_at c) (block_at f) (whole_blocks f) (λ q low. same_block q (omega (arith, low, few))))
        ∙ replayed_alike (block_at c) (block_at f) blank (committed (block_at f) (whole_blocks f))
        (λ q low. same_block q (omega (arith, low, few, few_committed)))

    same_end : commits_end c ≡ commits_end f
    same_end = ap (committed (block_at c)) same_whole
        ∙ committed_alike (block_at c) (block_at f) (whole_blocks f) (λ q low. same_block q (omega (arith, low, few)))

    pub same_ends : EndsTorn f (commits_end f) → EndsTorn c (commits_end c)
    same_ends ends = subst (EndsTorn c) (sym same_end) (λ q from low. ⊎_elim
        (λ none. inl (λ i small. ap (λ (b : List ℕ). slice_index b i) (same_block q low) ∙ none i small))
        (λ torn. inr (record {
          near = torn.near;
          unended = λ p at before.
              subst (λ (b : List ℕ). is_whole p b && is_last b ≡ false) (sym (same_block p (omega (arith, before, low))))
              (torn.unended p at before);
        }))
        (ends q from low))

    pub same_base : base_of c ≡ base_of f
    same_base =
        ap (replayed (block_at c) blank) same_base_end
        ∙ replayed_alike (block_at c) (block_at f) blank (base_end f)
        (λ q low. same_block q (omega (arith, low, few, first_few (block_at f) (whole_blocks f))))

  pub mark_left : (c : List ℕ) → Mixed 4194304 (1 ∷ []) f c → 0 < base_end f → EndsTorn f (commits_end f)
      → IsLeft (base_of f) (recovered f) (recovered f) c
  mark_left c mixed some ends = record {
    size = mixed.size ∙ size;
    based = omega (arith, some, same_base_end c mixed);
    base = same_base c mixed;
    image = inl (same_recovered c mixed);
    ends = same_ends c mixed ends;
  }

  pub is_there : is_marked (overwritten f 4194304 (1 ∷ [])) ≡ true
  is_there =
      let is : slice_index (overwritten f 4194304 (1 ∷ [])) (4194304 + 0) ≡ 1 = new_each f 4194304 (1 ∷ []) (omega (arith, size)) 0 (omega arith) in
      ap (λ (k : ℕ). not (eqb k 0)) is
