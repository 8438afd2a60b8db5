-- A commit that is all there: a log that stands for the image after it.
use Rattle.std.proofs.Common.{◌≡◌, ◌≤◌, ◌<◌, ◌+◌, ◌-◌, ◌*◌, ◌++◌, ◌∙◌, ℕ, zero, suc, List, [], ◌∷◌, ap, arith, drop, false, get_or, inl, inr, length, refl, slice_index, sym, take, true, ⊎_elim, mul-suc, get_or-take, get_or-drop, length-append, length-drop, length-take-le, not}
use Rattle.std.proofs.lemmas.Bool.{cases_lt, eq-eqb}
use Rattle.std.proofs.lemmas.List.{get_or_append_left, get_or-append_right}
use Rattle.std.specs.List.{flat_map}
use Rattle.d64_image.specs.Images.{Image}
use Rattle.image_log.specs.Blocks.{IsCommit, block_at, committed, first_commit, is_last, is_whole, replayed}
use Rattle.image_log.specs.Files.{IsBlend, Mixed, overwritten}
use Rattle.image_log.specs.Recovered.{IsLog, base_end, base_of, blank, is_marked, recovered}
use Rattle.image_log.proofs.Runs.{block_by, committed_last, first_alike, first_few, first_here, first_later, first_none, first_stays, none_committed, replayed_alike, replayed_behind}
use Rattle.image_log.proofs.Torn.{base_end_is, recovered_is, same_before}

step : (k q : ℕ) → k * suc q ≡ k + k * q
step k q = mul-suc k q ∙ (omega arith)

-- a byte of blocks that are joined
pub flat_at : (k : ℕ) (bs : List (List ℕ)) → ((j : ℕ) → j < length bs → length (get_or bs j []) ≡ k) → (q i : ℕ)
    → q < length bs → i < k → slice_index (flat_map (λ b. b) bs) (k * q + i) ≡ slice_index (get_or bs q []) i
flat_at k [] wide q i low few = absurd (omega (arith, low))
flat_at k (b ∷ bs) wide zero i low few =
    let here : length b ≡ k = wide 0 (omega arith) in
    let e : k * zero + i ≡ i = omega arith in
    ap (slice_index (b ++ flat_map (λ x. x) bs)) e ∙ get_or_append_left b (flat_map (λ x. x) bs) 0 i (omega (arith, here, few))
flat_at k (b ∷ bs) wide (suc q) i low few =
    let here : length b ≡ k = wide 0 (omega arith) in
    let s = step k q in
    let e : k * suc q + i - k ≡ k * q + i = omega (arith, s) in
    get_or-append_right b (flat_map (λ x. x) bs) k (k * suc q + i) 0 here (omega (arith, s))
    ∙ ap (slice_index (flat_map (λ x. x) bs)) e
    ∙ flat_at k bs (λ j below. wide (suc j) (omega arith)) q i (omega arith) few

module _ (f : List ℕ) (at : ℕ) (bytes : List ℕ) (within : at + length bytes ≤ length f) where
  front : length (take at f) ≡ at
  front = length-take-le at f (omega (arith, within))

  pub new_before : (i : ℕ) → i < at → slice_index (overwritten f at bytes) i ≡ slice_index f i
  new_before i low = get_or_append_left (take at f) (bytes ++ drop (at + length bytes) f) 0 i (omega (arith, front, low)) ∙ get_or-take at f i 0 low

  pub new_each : (i : ℕ) → i < length bytes → slice_index (overwritten f at bytes) (at + i) ≡ slice_index bytes i
  new_each i low =
      let e : at + i - at ≡ i = omega arith in
      get_or-append_right (take at f) (bytes ++ drop (at + length bytes) f) at (at + i) 0 front (omega arith)
      ∙ ap (slice_index (bytes ++ drop (at + length bytes) f)) e
      ∙ get_or_append_left bytes (drop (at + length bytes) f) 0 i low

  pub new_after : (i : ℕ) → at + length bytes ≤ i → slice_index (overwritten f at bytes) i ≡ slice_index f i
  new_after i from =
      let e : at + length bytes + (i - at - length bytes) ≡ i = omega (arith, from) in
      get_or-append_right (take at f) (bytes ++ drop (at + length bytes) f) at i 0 front (omega (arith, from))
      ∙ get_or-append_right bytes (drop (at + length bytes) f) (length bytes) (i - at) 0 refl (omega (arith, from))
      ∙ get_or-drop (at + length bytes) f (i - at - length bytes) 0 ∙ ap (slice_index f) e

  -- a read beside the write returns what may be left of it when it is torn
  pub blend_mixed : (c : List ℕ) → IsBlend f (overwritten f at bytes) c → Mixed at bytes f c
  blend_mixed c blend = record {
    size = blend.size;
    before = λ i low. ⊎_elim (λ was. was) (λ now. now ∙ new_before i low) (blend.each i);
    after = λ i from. ⊎_elim (λ was. was) (λ now. now ∙ new_after i from) (blend.each i);
    each = λ i low. ⊎_elim (λ was. inl was) (λ now. inr (now ∙ new_each i low)) (blend.each (at + i));
  }

  pub new_long : length (overwritten f at bytes) ≡ length f
  new_long = omega (
    arith,
    length-append (take at f) (bytes ++ drop (at + length bytes) f),
    length-append bytes (drop (at + length bytes) f),
    length-drop (at + length bytes) f,
    front,
    within,
  )

  pub new_mixed : Mixed at bytes f (overwritten f at bytes)
  new_mixed = record { size = new_long; before = new_before; after = new_after; each = λ i low. inr (new_each i low) }

module _ (f : List ℕ) (end : ℕ) (log : IsLog f end) (B : ℕ → List ℕ) (n : ℕ) (commit : IsCommit B end n)
    (room : end + n ≤ 1024) (bytes : List ℕ) (long : length bytes ≡ 4096 * n)
    (each_long : (q : ℕ) → q < n → length (B q) ≡ 4096)
    (blocks : (q i : ℕ) → q < n → i < 4096 → slice_index bytes (4096 * q + i) ≡ slice_index (B q) i) where
  fits : 4096 * end + length bytes ≤ length f
  fits = omega (arith, long, log.size, room)

  abbrev new : List ℕ
  new = overwritten f (4096 * end) bytes

  old_block : (q : ℕ) → q < end → block_at new q ≡ block_at f q
  old_block = same_before f end log B n commit room bytes long each_long blocks new (new_mixed f (4096 * end) bytes fits)

  new_block : (q : ℕ) → q < n → block_at new (end + q) ≡ B q
  new_block q low = block_by new (B q) (end + q) (omega (arith, new_long f (4096 * end) bytes fits, log.size, room)) (each_long q low)
      (λ i few.
      let e : 4096 * (end + q) + i ≡ 4096 * end + (4096 * q + i) = omega arith in
      ap (slice_index new) e ∙ new_each f (4096 * end) bytes fits (4096 * q + i) (omega (arith, long)) ∙ blocks q i low few)

  all_whole : (q : ℕ) → q < end + n → is_whole q (block_at new q) ≡ true
  all_whole q low = elim (cases_lt q end) [
    | inl early ↦ ap (is_whole q) (old_block q early) ∙ log.whole q early
    | inr late ↦
        let e : end + (q - end) ≡ q = omega arith in
        ap (λ k. is_whole k (block_at new k)) (sym e) ∙ ap (is_whole (end + (q - end))) (new_block (q - end) (omega arith))
        ∙ commit.whole (q - end) (omega arith)
  ]

  pub log_after : IsLog new (end + n)
  log_after = record {
    size = new_long f (4096 * end) bytes fits ∙ log.size;
    within = room;
    whole = all_whole;
    ended =
        let q = commit.some.0 in
        let e : end + n ≡ suc (end + q) = omega (arith, commit.some.1) in
        let last : is_last (block_at new (end + q)) ≡ true =
        ap is_last (new_block q (omega (arith, commit.some.1))) ∙ commit.last q (sym commit.some.1) in
        ap (committed (block_at new)) e ∙ committed_last (block_at new) (end + q) last ∙ sym e;
    zeros = λ i from. new_after f (4096 * end) bytes fits i (omega (arith, from, long)) ∙ log.zeros i (omega (arith, from));
  }

  pub recovered_after : recovered new ≡ replayed B (recovered f) n
  recovered_after =
      recovered_is new (end + n) log_after
      ∙ replayed_behind (block_at new) B blank end n new_block
      ∙ ap (λ (image : Image). replayed B image n) (replayed_alike (block_at new) (block_at f) blank end old_block ∙ sym (recovered_is f end log))

  first_after : first_commit (block_at new) end ≡ first_commit (block_at f) end
  first_after = first_alike (block_at new) (block_at f) end old_block

  last_block : committed (block_at new) (end + n) ≡ end + n
  last_block = log_after.ended

  -- there is a base now, this commit at the latest
  pub based_after : 0 < first_commit (block_at new) (end + n)
  based_after = elim (cases_lt 0 (first_commit (block_at new) (end + n))) [
    | inl some ↦ some
    | inr none ↦ absurd (omega (arith, none_committed (block_at new) (end + n) (omega (arith, none)), last_block, commit.some.1))
  ]

  -- with no commit before, nothing of this one ends earlier
  none_yet : end ≡ 0 → (k : ℕ) → k < n → first_commit (block_at new) (end + k) ≡ 0
  none_yet start zero low = let e : end + zero ≡ 0 = omega (arith, start) in ap (first_commit (block_at new)) e ∙ first_none (block_at new)
  none_yet start (suc k) low =
      let e : end + suc k ≡ suc (end + k) = omega arith in
      ap (first_commit (block_at new)) e ∙ first_later (block_at new) (end + k) (none_yet start k (omega (arith, low)))
      (ap is_last (new_block k (omega (arith, low))) ∙ commit.more k low)

  pub base_first : end ≡ 0 → base_of new ≡ recovered new
  base_first start =
      let q = commit.some.0 in
      let e : end + n ≡ suc (end + q) = omega (arith, commit.some.1) in
      let ends : first_commit (block_at new) (end + n) ≡ end + n =
      ap (first_commit (block_at new)) e
      ∙ first_here (block_at new) (end + q) (none_yet start q (omega (arith, commit.some.1)))
      (ap is_last (new_block q (omega (arith, commit.some.1))) ∙ commit.last q (sym commit.some.1)) ∙ sym e in
      ap (replayed (block_at new) blank) (base_end_is new (end + n) log_after ∙ ends) ∙ sym (recovered_is new (end + n) log_after)

  pub base_after : 0 < first_commit (block_at f) end → base_of new ≡ base_of f
  base_after some =
      let ends : base_end new ≡ first_commit (block_at f) end =
      base_end_is new (end + n) log_after ∙ first_stays (block_at new) end n (omega (arith, some, first_after)) ∙ first_after in
      let few = first_few (block_at f) end in
      ap (replayed (block_at new) blank) ends
      ∙ replayed_alike (block_at new) (block_at f) blank (first_commit (block_at f) end) (λ q low. old_block q (omega (arith, low, few)))
      ∙ ap (replayed (block_at f) blank) (sym (base_end_is f end log))

  -- no mark in what a torn commit leaves
  pub unmarked : (c : List ℕ) → Mixed (4096 * end) bytes f c → is_marked c ≡ false
  unmarked c mixed =
      let none : slice_index c 4194304 ≡ 0 = mixed.after 4194304 (omega (arith, long, room)) ∙ log.zeros 4194304 (omega (arith, log.within)) in
      ap not (eq-eqb (slice_index c 4194304) 0 none)
