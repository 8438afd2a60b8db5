-- What is printed of a file's records, stored: its lines are of these records, which are the first ones then.
use Rattle.std.proofs.Common.{◌≡◌, ◌≢◌, ◌≤◌, ◌<◌, ◌+◌, ◌-◌, ◌*◌, inl, inr, ℕ, zero, suc, List, [], ◌∷◌, ◌++◌, length}
use Rattle.std.proofs.Common.{drop, set, length-append, refl, subst, sym, ap, ap₂, ◌∙◌, arith}
use Rattle.std.specs.List.{AllByRecursion}
use Rattle.std.proofs.lemmas.List.Elements.{All-from_recursion, recursion_from_All}
use Rattle.std.specs.Prelude.{max}
use Rattle.std.proofs.Math.Seq.{set-append_seam}
use Rattle.std.proofs.Math.Nat.{mul-le-mul_left}
use Rattle.std.proofs.lemmas.List.{append_assoc}
use Rattle.line_text.proofs.lemmas.bytes.Stored.{line-of, one-line, stored-back}
use Rattle.line_text.proofs.lemmas.bytes.Trims.{trimmed-short}
use Rattle.line_text.specs.bytes.Lines.{padded}
use Rattle.line_text.specs.bytes.Texts.{AreBytes, kept_before, trimmed}
use Rattle.line_text.specs.scripts.Lines.{lines}
use Rattle.file_rescues.specs.Records.{records_text}
use Rattle.disk_changes.specs.lines.Stores.{AreApart, AreLinesOf, AreRecords, CanHave, CanStore, NewRecord, greatest}
use Rattle.disk_changes.specs.lines.Stores.{new_record, numbered, stored, with_stored}
use Rattle.disk_changes.proofs.lemmas.lines.Lined.{first-line, line-ended, line_at, text-is, text_from}

-- what is trimmed has no other bytes
abbrev Small : List ℕ → Type 0
Small bs = AllByRecursion (λ b. b < 256) bs

kept-small : (b : ℕ) (xs : List ℕ) → b < 256 → Small xs → Small (kept_before b xs)
kept-small zero [] here all = tt
kept-small (suc b) [] here all = (here, tt)
kept-small zero (x ∷ xs) here all = (here, all)
kept-small (suc b) (x ∷ xs) here all = (here, all)

trimmed-small : (r : List ℕ) → Small r → Small (trimmed r)
unfolding trimmed
trimmed-small [] all = tt
trimmed-small (b ∷ bs) all = kept-small b (trimmed bs) all.0 (trimmed-small bs all.1)

trimmed-bytes : (r : List ℕ) → AreBytes r → AreBytes (trimmed r)
trimmed-bytes r all =
    All-from_recursion (λ b. b < 256) (trimmed r) (trimmed-small r (recursion_from_All (λ b. b < 256) r all))

-- a record is reached with every greater one
can-less : (L had r s : ℕ) → r ≤ s → CanHave L had s → CanHave L had r
can-less L had r s le (inl there) = inl (omega (arith, le, there))
can-less L had r s le (inr (number, blocks)) =
    let row : L * r ≤ L * s = mul-le-mul_left L le in
    inr (omega (arith, le, number), omega (arith, row, blocks))

-- the lines of a text are of its records
pub lines-are : (L had k : ℕ) (rs : List (List ℕ)) → AreRecords L rs → k + length rs ≤ 182880
    → CanHave L had (k + length rs) → AreLinesOf L had (lines (text_from (suc k) rs)) (numbered (suc k) rs)
lines-are L had k [] are few can = tt
lines-are L had k (r ∷ rs) are few can =
    let next : k + length (r ∷ rs) ≡ suc k + length rs = omega arith in
    let x = new_record (suc k) (trimmed r) in
    let rest = lines-are L had (suc k) rs are.1 (omega (arith, few)) (subst (CanHave L had) next can) in
    let able : CanStore L had x = record {
      low = omega arith;
      high = omega (arith, few);
      bytes = trimmed-bytes r are.0.1;
      short = omega (arith, trimmed-short r, are.0.0);
      reach = can-less L had (suc k) (k + length (r ∷ rs)) (omega arith) can;
    } in
    subst (λ (ls : List (List ℕ)). AreLinesOf L had ls (x ∷ numbered (suc (suc k)) rs))
    (sym (first-line (suc k) r (text_from (suc (suc k)) rs) (omega (arith, few))))
    (line-of (suc k) r (line_at (suc k) r) (line-ended (suc k) r), able, rest)

pub lines-all : (L had : ℕ) (rs : List (List ℕ)) → AreRecords L rs → length rs ≤ 182880 → CanHave L had (length rs)
    → AreLinesOf L had (lines (records_text rs)) (numbered 1 rs)
lines-all L had rs are few can =
    let same : length rs ≡ 0 + length rs = omega arith in
    subst (λ (t : List ℕ). AreLinesOf L had (lines t) (numbered 1 rs)) (sym (text-is rs))
    (lines-are L had 0 rs are (omega (arith, few)) (subst (CanHave L had) same can))

-- and of no others
first-these : (L had n : ℕ) (r : List ℕ) (ls : List (List ℕ)) (others xs : List NewRecord) → 1 ≤ n → n ≤ 182880
    → ((ys : List NewRecord) → AreLinesOf L had ls ys → ys ≡ others)
    → AreLinesOf L had (line_at n r ∷ ls) xs → xs ≡ new_record n (trimmed r) ∷ others
first-these L had n r ls others [] low high rest are = absurd are
first-these L had n r ls others (x ∷ xs) low high rest are =
    let same = one-line (line_at n r) x.number n x.bytes (trimmed r) are.1.low are.1.high
    low high are.0 (line-of n r (line_at n r) (line-ended n r)) in
    let one : x ≡ new_record n (trimmed r) = λ i. record { number = same.0 i; bytes = same.1 i } in
    ap₂ (λ (z : NewRecord) (zs : List NewRecord). z ∷ zs) one (rest xs are.2)

lines-these : (L had k : ℕ) (rs : List (List ℕ)) (xs : List NewRecord) → k + length rs ≤ 182880
    → AreLinesOf L had (lines (text_from (suc k) rs)) xs → xs ≡ numbered (suc k) rs
lines-these L had k [] [] few are = refl
lines-these L had k [] (x ∷ xs) few are = absurd are
lines-these L had k (r ∷ rs) xs few are =
    first-these L had (suc k) r (lines (text_from (suc (suc k)) rs)) (numbered (suc (suc k)) rs) xs
    (omega arith) (omega (arith, few)) (λ ys more. lines-these L had (suc k) rs ys (omega (arith, few)) more)
    (subst (λ (ls : List (List ℕ)). AreLinesOf L had ls xs)
    (first-line (suc k) r (text_from (suc (suc k)) rs) (omega (arith, few))) are)

pub lines-only : (L had : ℕ) (rs : List (List ℕ)) (xs : List NewRecord) → length rs ≤ 182880
    → AreLinesOf L had (lines (records_text rs)) xs → xs ≡ numbered 1 rs
lines-only L had rs xs few are =
    lines-these L had 0 rs xs (omega (arith, few)) (subst (λ (t : List ℕ). AreLinesOf L had (lines t) xs) (text-is rs)
    are)

-- lines are of one list of records, whatever the file
pub lines-one : (L had L' had' : ℕ) (ls : List (List ℕ)) (xs ys : List NewRecord) → AreLinesOf L had ls xs
    → AreLinesOf L' had' ls ys → xs ≡ ys
lines-one L had L' had' [] [] [] a b = refl
lines-one L had L' had' [] [] (y ∷ ys) a b = absurd b
lines-one L had L' had' [] (x ∷ xs) ys a b = absurd a
lines-one L had L' had' (l ∷ ls) [] ys a b = absurd a
lines-one L had L' had' (l ∷ ls) (x ∷ xs) [] a b = absurd b
lines-one L had L' had' (l ∷ ls) (x ∷ xs) (y ∷ ys) a b =
    let same = one-line l x.number y.number x.bytes y.bytes a.1.low a.1.high b.1.low b.1.high a.0 b.0 in
    let one : x ≡ y = λ i. record { number = same.0 i; bytes = same.1 i } in
    ap₂ (λ (z : NewRecord) (zs : List NewRecord). z ∷ zs) one (lines-one L had L' had' ls xs ys a.2 b.2)

-- no two are of one record, and the last has the greatest number
others-apart : (n k : ℕ) (rs : List (List ℕ)) → n < k → AllByRecursion (λ y. y.number ≢ n) (numbered k rs)
others-apart n k [] lt = tt
others-apart n k (r ∷ rs) lt = ((λ is. omega (arith, lt, is)), others-apart n (suc k) rs (omega (arith, lt)))

pub numbered-apart : (k : ℕ) (rs : List (List ℕ)) → AreApart (numbered k rs)
numbered-apart k [] = tt
numbered-apart k (r ∷ rs) = (others-apart k (suc k) rs (omega arith), numbered-apart (suc k) rs)

greatest-from : (k : ℕ) (rs : List (List ℕ)) → max k (greatest (numbered (suc k) rs)) ≡ k + length rs
greatest-from k [] = omega arith
greatest-from k (r ∷ rs) = omega (arith, greatest-from (suc k) rs)

pub numbered-greatest : (rs : List (List ℕ)) → greatest (numbered 1 rs) ≡ length rs
numbered-greatest rs = omega (arith, greatest-from 0 rs)

-- a record stored at the end of the first ones
stored-seam : (L k : ℕ) (r t : List ℕ) (pre ts : List (List ℕ)) → k ≡ length pre → length r ≡ L
    → with_stored L (new_record (suc k) (trimmed r)) (pre ++ t ∷ ts) ≡ pre ++ r ∷ ts
stored-seam L k r t pre ts count long =
    let place : suc k - 1 ≡ length pre = omega (arith, count) in
    let whole : padded L (trimmed r) ≡ r = ap (λ (n : ℕ). padded n (trimmed r)) (sym long) ∙ stored-back r in
    ap₂ (λ (i : ℕ) (y : List ℕ). set (pre ++ t ∷ ts) i y) place whole ∙ set-append_seam pre t ts r

stored-from : (L k : ℕ) (rs ts pre : List (List ℕ)) → k ≡ length pre → AreRecords L rs → length rs ≤ length ts
    → stored L (numbered (suc k) rs) (pre ++ ts) ≡ pre ++ (rs ++ drop (length rs) ts)
stored-from L k [] ts pre count are few = refl
stored-from L k (r ∷ rs) [] pre count are few = absurd (omega (arith, few))
stored-from L k (r ∷ rs) (t ∷ ts) pre count are few =
    let more : suc k ≡ length (pre ++ r ∷ []) = omega (arith, count, length-append pre (r ∷ [])) in
    ap (stored L (numbered (suc (suc k)) rs)) (stored-seam L k r t pre ts count are.0.0
    ∙ sym (append_assoc pre (r ∷ []) ts))
    ∙ stored-from L (suc k) rs ts (pre ++ r ∷ []) more are.1 (omega (arith, few))
    ∙ append_assoc pre (r ∷ []) (rs ++ drop (length rs) ts)

pub stored-first : (L : ℕ) (rs ts : List (List ℕ)) → AreRecords L rs → length rs ≤ length ts
    → stored L (numbered 1 rs) ts ≡ rs ++ drop (length rs) ts
stored-first L rs ts are few = stored-from L 0 rs ts [] refl are few
