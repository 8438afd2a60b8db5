-- The entry over its slot, and zeros before it in each slot but the first.
use Rattle.std.proofs.Common.{ap, arith, drop, get_or, inl, inr, set, length, length-append, length-drop, slice_index}
use Rattle.std.proofs.Common.{take, ℕ, ◌++◌, ◌+◌, ◌-◌, ◌*◌, ◌<◌, ◌≡◌, ◌≢◌, ◌≤◌, ◌⊎◌, ◌∙◌}
use Rattle.std.proofs.lemmas.List.{get_or-append_right, get_or-drop, get_or-set_other, get_or-set_same, length-set}
use Rattle.std.proofs.lemmas.List.{length-take-le}
use Rattle.std.proofs.lemmas.Slice.{between-put_mid}
use borrow.Rule.Slice.PartMut.{put_mid}
use Rattle.d64_image.specs.Images.{Sector}
use Rattle.disk_layout.proofs.lemmas.records.EmptyRecords.{zeros-before}
use Rattle.rel_records.specs.creation.NewFile.{IsEntered}
use Rattle.rel_records.proofs.creation.new_file.set_entry.Goals as goal
use Rattle.rel_records.proofs.creation.new_file.set_entry.Goals.{else-number-gt0, then-number-gt0}

-- what stands behind the part that is written
behind : (a k i : ℕ) (xs ys : Sector) → a ≤ length xs → length ys ≡ k → a + k ≤ i
    → slice_index (put_mid a k xs ys) i ≡ slice_index xs i
behind a k i xs ys fits long far =
    get_or-append_right (take a xs) _ a i 0 (length-take-le a xs fits) (omega (arith, far))
    ∙ get_or-append_right ys _ k (i - a) 0 long (omega (arith, far))
    ∙ get_or-drop k (drop a xs) (i - a - k) 0
    ∙ get_or-drop a xs (k + (i - a - k)) 0
    ∙ ap (λ (n : ℕ). get_or xs n 0) (omega (arith, far))

put-long : (a k : ℕ) (xs ys : Sector) → a + k ≤ length xs → length ys ≡ k → length (put_mid a k xs ys) ≡ length xs
put-long a k xs ys fits long = omega (
  arith,
  length-append (take a xs) (ys ++ drop k (drop a xs)),
  length-append ys (drop k (drop a xs)),
  length-take-le a xs (omega (arith, fits)),
  length-drop k (drop a xs),
  length-drop a xs,
  long,
  fits,
)

-- the entry over the slot's bytes behind its first two
entered : (old mid ys entry : Sector) (n k : ℕ) → k ≡ 30 → n < 8 → length old ≡ 256 → length mid ≡ 256
    → length entry ≡ 30 → ys ≡ entry
    → ((i : ℕ) → (i < 32 * n) ⊎ (32 * n + 2 ≤ i) → slice_index mid i ≡ slice_index old i)
    → ((i : ℕ) → i < 2 → slice_index mid i ≡ slice_index old i)
    → (0 < n → (slice_index mid (32 * n) ≡ 0) × (slice_index mid (32 * n + 1) ≡ 0))
    → IsEntered old (put_mid (32 * n + 2) k mid ys) n entry
entered old mid ys entry n k size few old_long mid_long entry_long same rest link zeros =
    let long : length ys ≡ 30 = ap length same ∙ entry_long in
    let fits : 32 * n + 2 ≤ length mid = omega (arith, few, mid_long) in
    let before : (i : ℕ) → i < 32 * n + 2 → slice_index (put_mid (32 * n + 2) k mid ys) i ≡ slice_index mid i =
    λ i lt. zeros-before (32 * n + 2) k mid ys i fits lt in
    record {
      old_long = old_long;
      long = put-long (32 * n + 2) k mid ys (omega (arith, few, mid_long, size)) (omega (arith, long, size)) ∙ mid_long;
      here = between-put_mid (32 * n + 2) k mid ys (32 * n + 32) fits (omega (arith, long)) ∙ same;
      rest = λ i at. elim at [
        | inl low ↦ before i (omega (arith, low)) ∙ rest i (inl low)
        | inr high ↦ behind (32 * n + 2) k i mid ys fits (omega (arith, long, size)) (omega (arith, size, high))
            ∙ rest i (inr (omega (arith, high)))
      ];
      link = λ i lt. before i (omega (arith, lt)) ∙ link i lt;
      zeros = λ some. (
        before (32 * n) (omega arith) ∙ (zeros some).0,
        before (32 * n + 1) (omega arith)
            ∙ (zeros some).1,
      );
    }

pub returns : goal.returns
returns c =
    let old = c.args.bytes.now in
    let n = c.args.number in
    let size : 32 * n + 32 - (32 * n + 2) ≡ 30 = omega arith in
    elim c.if-number-gt0.branch [
      | then-number-gt0 w ↦
          let at : (i : ℕ) → slice_index c.if-number-gt0.bytes i ≡ slice_index (set (set old (32 * n) 0) (32 * n + 1) 0)
          i = λ i. ap (λ (b : Sector). slice_index b i) w.bytes-is in
          let other : (i : ℕ) → i ≢ 32 * n → i ≢ 32 * n + 1 → slice_index c.if-number-gt0.bytes i ≡ slice_index old i =
          λ i ne nf. at i ∙ get_or-set_other (set old (32 * n) 0) (32 * n + 1) i 0 0 nf
          ∙ get_or-set_other old (32 * n) i 0 0 ne in
          let long : length (set old (32 * n) 0) ≡ 256 = length-set old (32 * n) 0 ∙ c.told-bytes in
          entered old c.if-number-gt0.bytes c.copy_from_slice.new.self c.args.entry.now n _ size c.requires c.told-bytes
          c.if-number-gt0.array_long c.told-entry c.copy_from_slice.ensures.after
          (λ i far. other i (λ e. elim far [ inl low ↦ omega (arith, e, low) | inr high ↦ omega (arith, e, high) ])
          (λ e. elim far [ inl low ↦ omega (arith, e, low) | inr high ↦ omega (arith, e, high) ]))
          (λ i lt. other i (λ e. omega (arith, e, lt, w.if-number-gt0.true))
          (λ e. omega (arith, e, lt, w.if-number-gt0.true)))
          (λ some. (
            at (32 * n) ∙ get_or-set_other (set old (32 * n) 0) (32 * n + 1) (32 * n) 0 0 (λ e. omega (arith, e))
                ∙ get_or-set_same old (32 * n) 0 0 (omega (arith, c.requires, c.told-bytes)),
            at (32 * n + 1) ∙ get_or-set_same (set old (32 * n) 0) (32 * n + 1) 0 0 (omega (arith, c.requires, long)),
          ))
      | else-number-gt0 w ↦
          let same : (i : ℕ) → slice_index c.if-number-gt0.bytes i ≡ slice_index old i =
          λ i. ap (λ (b : Sector). slice_index b i) w.bytes-is in
          entered old c.if-number-gt0.bytes c.copy_from_slice.new.self c.args.entry.now n _ size c.requires c.told-bytes
          c.if-number-gt0.array_long c.told-entry c.copy_from_slice.ensures.after
          (λ i far. same i) (λ i lt. same i) (λ some. absurd (omega (arith, some, w.if-number-gt0.false)))
    ]
