-- What a torn commit leaves: of its blocks those up to the first that isn't all there, and nothing behind.
use Rattle.std.proofs.Common.{◌≡◌, ◌⊎◌, ℕ, zero, suc, ◌+◌, ◌-◌, ◌*◌, ◌<◌, ◌≤◌, true, List, length, slice_index, sym, ◌∙◌}
use Rattle.std.proofs.Common.{◌&&◌, ap, false, inl, inr, arith, subst}
use Rattle.std.proofs.lemmas.Bool.{and_parts, cases_Bool, cases_lt}
use Rattle.d64_image.specs.Images.{Image}
use Rattle.image_log.specs.Blocks.{IsBlank, IsCommit, block_at, committed, counts, first_commit, is_last, is_whole, replayed, whole_from}
use Rattle.image_log.specs.Files.{Mixed}
use Rattle.image_log.specs.Recovered.{EndsTorn, IsLeft, IsLog, base_end, base_of, blank, commits_end, recovered, whole_blocks}
use Rattle.image_log.proofs.Counting.{Faint, all_or_nothing, blank_counts}
use Rattle.image_log.proofs.Runs.{committed_last, committed_more, first_alike, first_few, first_stays, length-block, replayed_alike, replayed_behind, same_parts, slice_index-block, whole_add, whole_below, committed_alike, block_is}

counts_of : (place : ℕ) (b : List ℕ) → is_whole place b ≡ true → counts b ≡ true
counts_of place b is = (and_parts (counts b) _ is).0

-- a block of zeros isn't whole
blank_block : (f : List ℕ) (q place : ℕ) → ((i : ℕ) → 4096 * q ≤ i → slice_index f i ≡ 0)
    → is_whole place (block_at f q) ≡ true → ⊥
blank_block f q place zeros is = blank_counts (block_at f q)
    (λ i low. slice_index-block f q i low ∙ zeros (4096 * q + i) (omega arith)) (counts_of place (block_at f q) is)

module _ (f : List ℕ) (end : ℕ) (log : IsLog f end) where
  was_whole : (q : ℕ) → q < end → is_whole (0 + q) (block_at f (0 + q)) ≡ true
  was_whole q low = let e : 0 + q ≡ q = omega arith in ap (λ k. is_whole k (block_at f k)) e ∙ log.whole q low

  -- no block behind the end is whole
  pub ended_at : whole_blocks f ≡ end
  ended_at =
      let e : end + (1024 - end) ≡ 1024 = omega (arith, log.within) in
      let all = ap (whole_from (block_at f) 0) (sym e) ∙ whole_add (block_at f) 0 end (1024 - end) was_whole in
      elim (cases_lt 0 (whole_from (block_at f) (0 + end) (1024 - end))) [
        | inl some ↦ absurd (blank_block f (0 + end + 0) (0 + end + 0) (λ i from. log.zeros i (omega arith))
            (whole_below (block_at f) (0 + end) (1024 - end) 0 some))
        | inr none ↦ omega (arith, all)
      ]

  pub recovered_is : recovered f ≡ replayed (block_at f) blank end
  recovered_is = ap (replayed (block_at f) blank) (ap (committed (block_at f)) ended_at ∙ log.ended)

  pub base_end_is : base_end f ≡ first_commit (block_at f) end
  base_end_is = ap (first_commit (block_at f)) ended_at

  -- nothing stands after its end
  pub ends_clean : EndsTorn f (commits_end f)
  ends_clean q from low =
      let end_is : commits_end f ≡ end = ap (committed (block_at f)) ended_at ∙ log.ended in
      inl (λ i few. slice_index-block f q i few ∙ log.zeros (4096 * q + i) (omega (arith, end_is, from)))

-- the blocks of a commit, and where they are to stand
module _ (f : List ℕ) (end : ℕ) (log : IsLog f end) (B : ℕ → List ℕ) (n : ℕ) (commit : IsCommit B end n)
    (room : end + n ≤ 1024) (bytes : List ℕ) (long : length bytes ≡ 4096 * n)
    (each_long : (q : ℕ) → q < n → length (B q) ≡ 4096)
    (blocks : (q i : ℕ) → q < n → i < 4096 → slice_index bytes (4096 * q + i) ≡ slice_index (B q) i) where
  module _ (c : List ℕ) (mixed : Mixed (4096 * end) bytes f c) where
    size : length c ≡ 4198400
    size = mixed.size ∙ log.size

    -- the blocks before are as they were
    pub same_before : (q : ℕ) → q < end → block_at c q ≡ block_at f q
    same_before q low =
        block_is c q
        ∙ same_parts c f (4096 * q) (4096 * q) 4096 (omega (arith, size, log.within)) (omega (arith, log.size, log.within))
        (λ i few. mixed.before (4096 * q + i) (omega arith))
        ∙ sym (block_is f q)

    faint : (q i : ℕ) → q < n → i < 4096 → Faint (slice_index (block_at c (end + q)) i) (slice_index (B q) i)
    faint q i low few =
        let at : 4096 * end + (4096 * q + i) ≡ 4096 * (end + q) + i = omega arith in
        let here = slice_index-block c (end + q) i few ∙ ap (slice_index c) (sym at) in
        elim (mixed.each (4096 * q + i) (omega (arith, long))) [
          | inl was ↦ inl (here ∙ was ∙ log.zeros (4096 * end + (4096 * q + i)) (omega arith))
          | inr put ↦ inr (here ∙ put ∙ blocks q i low few)
        ]

    still_whole : (q : ℕ) → q < end → is_whole (0 + q) (block_at c (0 + q)) ≡ true
    still_whole q low =
        let e : 0 + q ≡ q = omega arith in
        ap (λ k. is_whole k (block_at c k)) e ∙ ap (is_whole q) (same_before q low) ∙ log.whole q low

    -- how many of the commit's blocks are there
    abbrev pub behind : ℕ
    behind = whole_from (block_at c) (0 + end) (1024 - end)

    pub reach : whole_blocks c ≡ end + behind
    reach =
        let e : end + (1024 - end) ≡ 1024 = omega (arith, log.within) in
        ap (whole_from (block_at c) 0) (sym e) ∙ whole_add (block_at c) 0 end (1024 - end) still_whole

    pub few_behind : behind ≤ n
    few_behind = elim (cases_lt n behind) [
      | inl more ↦ absurd (blank_block c (0 + end + n) (0 + end + n)
          (λ i from. mixed.after i (omega (arith, long)) ∙ log.zeros i (omega arith))
          (whole_below (block_at c) (0 + end) (1024 - end) n more))
      | inr few ↦ few
    ]

    pub same_behind : (q : ℕ) → q < behind → block_at c (end + q) ≡ B q
    same_behind q low =
        let there : q < n = omega (arith, few_behind) in
        let e : 0 + end + q ≡ end + q = omega arith in
        let ours = ap (λ k. is_whole k (block_at c k)) (sym e) ∙ whole_below (block_at c) (0 + end) (1024 - end) q low in
        all_or_nothing (block_at c (end + q)) (B q) (length-block c (end + q) (omega (arith, size, room))) (each_long q there)
        (λ i few. faint q i there few) (counts_of (end + q) (block_at c (end + q)) ours) (counts_of (end + q) (B q) (commit.whole q there))

    -- before the commit's last block nothing of it counts
    part_of_it : (k : ℕ) → k < n → k ≤ behind → committed (block_at c) (end + k) ≡ end
    part_of_it zero low there =
        let e : end + zero ≡ end = omega arith in
        ap (committed (block_at c)) e ∙ committed_alike (block_at c) (block_at f) end same_before ∙ log.ended
    part_of_it (suc k) low there =
        let e : end + suc k ≡ suc (end + k) = omega arith in
        ap (committed (block_at c)) e
        ∙ committed_more (block_at c) (end + k) (ap is_last (same_behind k (omega arith)) ∙ commit.more k low)
        ∙ part_of_it k (omega arith) (omega arith)

    all_of_it : n ≤ behind → committed (block_at c) (end + n) ≡ end + n
    all_of_it there =
        let q = commit.some.0 in
        let e : end + n ≡ suc (end + q) = omega (arith, commit.some.1) in
        let last : is_last (block_at c (end + q)) ≡ true =
        ap is_last (same_behind q (omega (arith, commit.some.1, there))) ∙ commit.last q (sym commit.some.1) in
        ap (committed (block_at c)) e ∙ committed_last (block_at c) (end + q) last ∙ sym e

    before_is : replayed (block_at c) blank end ≡ replayed (block_at f) blank end
    before_is = replayed_alike (block_at c) (block_at f) blank end same_before

    -- the image before the commit or after it, and no other
    pub either : (recovered c ≡ recovered f) ⊎ (recovered c ≡ replayed B (recovered f) n)
    either = elim (cases_lt behind n) [
      | inl part ↦ inl (ap (replayed (block_at c) blank) (ap (committed (block_at c)) reach ∙ part_of_it behind part (omega arith))
          ∙ before_is ∙ sym (recovered_is f end log))
      | inr all ↦
          let e : end + behind ≡ end + n = omega (arith, few_behind) in
          inr (ap (replayed (block_at c) blank) (ap (committed (block_at c)) (reach ∙ e) ∙ all_of_it all)
          ∙ replayed_behind (block_at c) B blank end n (λ q low. same_behind q (omega (arith, all)))
          ∙ ap (λ (image : Image). replayed B image n) (before_is ∙ sym (recovered_is f end log)))
    ]

    -- the blocks after the commit are zeros
    blank_after : (q : ℕ) → end + n ≤ q → IsBlank (block_at c q)
    blank_after q from i few = slice_index-block c q i few
        ∙ mixed.after (4096 * q + i) (omega (arith, long, from)) ∙ log.zeros (4096 * q + i) (omega (arith, from))

    -- a whole block of the commit, before its last one, doesn't end it
    ends_none : (k : ℕ) → suc k < n → is_whole (end + k) (block_at c (end + k)) && is_last (block_at c (end + k)) ≡ false
    ends_none k low = elim (cases_Bool (is_whole (end + k) (block_at c (end + k)))) [
      | inl is ↦
          let there : k < n = omega (arith, low) in
          let same = all_or_nothing (block_at c (end + k)) (B k) (length-block c (end + k) (omega (arith, size, room)))
          (each_long k there) (λ i few. faint k i there few)
          (counts_of (end + k) (block_at c (end + k)) is) (counts_of (end + k) (B k) (commit.whole k there)) in
          ap (λ b. b && is_last (block_at c (end + k))) is ∙ ap is_last same ∙ commit.more k low
      | inr isnt ↦ ap (λ b. b && is_last (block_at c (end + k))) isnt
    ]

    -- the torn commit is all that stands after the whole ones
    pub ends_torn : n ≤ 46 → EndsTorn c (commits_end c)
    ends_torn most q from low = elim (cases_lt q (end + n)) [
      | inr behind_it ↦ inl (blank_after q behind_it)
      | inl inside ↦ elim (cases_lt behind n) [
        | inr all ↦
            let e : end + behind ≡ end + n = omega (arith, few_behind) in
            let is : commits_end c ≡ end + n = ap (committed (block_at c)) (reach ∙ e) ∙ all_of_it all in
            absurd (omega (arith, is, from, inside))
        | inl part ↦
            let is : commits_end c ≡ end = ap (committed (block_at c)) reach ∙ part_of_it behind part (omega arith) in
            inr (record {
              near = omega (arith, is, inside, most);
              unended = λ p at before.
                  let e : end + (p - end) ≡ p = omega (arith, is, at) in
                  subst (λ (k : ℕ). is_whole k (block_at c k) && is_last (block_at c k) ≡ false) e
                  (ends_none (p - end) (omega (arith, is, at, before, inside)));
            })
      ]
    ]

    -- the base stays
    pub base_same : 0 < first_commit (block_at f) end → base_end c ≡ first_commit (block_at f) end
    base_same some =
        let alike = first_alike (block_at c) (block_at f) end same_before in
        ap (first_commit (block_at c)) reach ∙ first_stays (block_at c) end behind (omega (arith, alike, some)) ∙ alike

    pub left : n ≤ 46 → (base before now : Image) → 0 < first_commit (block_at f) end → base_of f ≡ base → recovered f ≡ before
        → replayed B before n ≡ now → IsLeft base before now c
    left most base before now some is_base is_before is_now =
        let ends = base_same some in
        let few : first_commit (block_at f) end ≤ end = first_few (block_at f) end in
        record {
          size = size;
          based = omega (arith, ends, some);
          base = ap (replayed (block_at c) blank) ends
              ∙ replayed_alike (block_at c) (block_at f) blank (first_commit (block_at f) end) (λ q low. same_before q (omega (arith, few)))
              ∙ ap (replayed (block_at f) blank) (sym (base_end_is f end log)) ∙ is_base;
          image = elim either [
            | inl old ↦ inl (old ∙ is_before)
            | inr new ↦ inr (new ∙ ap (λ (image : Image). replayed B image n) is_before ∙ is_now)
          ];
          ends = ends_torn most;
        }
