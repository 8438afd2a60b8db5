-- A block with its digest and its count.
use Rattle.std.proofs.Common.{◌≡◌, ◌≤◌, ◌+◌, ◌-◌, ℕ, List, [], ◌∷◌, drop, length, refl, slice_index, sym, take, true, ◌∙◌, ap, arith, ext_get_or, get_or-drop, length-drop}
use Rattle.std.proofs.lemmas.Bool.{and_from, eq-eqb}
use Rattle.std.proofs.lemmas.List.{take_all}
use Rattle.std.specs.Prelude.{bytes_eq}
use Rattle.sha2.specs.Sha256.{sha256}
use Rattle.image_log.specs.Blocks.{counts, matches, pair_at, part, zeros_in}
use Rattle.image_log.proofs.Counting.{zeros_alike}

pub same_drop : (x y : List ℕ) (k : ℕ) → length x ≡ length y → ((i : ℕ) → k ≤ i → slice_index x i ≡ slice_index y i)
    → drop k x ≡ drop k y
same_drop x y k long same = ext_get_or 0 _ _ (length-drop k x ∙ ap (λ n. n - k) long ∙ sym (length-drop k y)) λ i h.
    get_or-drop k x i 0 ∙ same (k + i) (omega arith) ∙ sym (get_or-drop k y i 0)

pub by_drop : (x y : List ℕ) (k i : ℕ) → drop k x ≡ drop k y → k ≤ i → slice_index x i ≡ slice_index y i
by_drop x y k i same from =
    let e : k + (i - k) ≡ i = omega arith in
    ap (slice_index x) (sym e) ∙ sym (get_or-drop k x (i - k) 0) ∙ ap (λ (b : List ℕ). slice_index b (i - k)) same
    ∙ get_or-drop k y (i - k) 0 ∙ ap (slice_index y) e

pub behind_is : (b : List ℕ) (n : ℕ) → length b ≡ 4096 → n ≡ 4086 → take n (drop 10 b) ≡ drop 10 b
behind_is b n long is = take_all n (drop 10 b) (omega (arith, length-drop 10 b))

pub matches_by : (b d : List ℕ) → d ≡ sha256 (drop 10 b) → bytes_eq (part b 2 8) (take 8 d) ≡ matches b
unfolding matches
matches_by b d is = ap (λ (s : List ℕ). bytes_eq (part b 2 8) (take 8 s)) is

pub bytes_eq-same : (b : List ℕ) → bytes_eq b b ≡ true
bytes_eq-same [] = refl
bytes_eq-same (x ∷ b) = and_from _ _ (eq-eqb x x refl) (bytes_eq-same b)

-- the count and the bytes before it don't reach the digest
pub matches_same : (x y d : List ℕ) → part x 2 8 ≡ take 8 d → part x 2 8 ≡ part y 2 8 → drop 10 x ≡ drop 10 y
    → d ≡ sha256 (drop 10 x) → bytes_eq (take 8 d) (take 8 d) ≡ true → matches y ≡ true
unfolding matches
matches_same x y d put same behind is itself =
    ap (λ (s : List ℕ). bytes_eq s (take 8 (sha256 (drop 10 y)))) (sym same ∙ put)
    ∙ ap (λ (s : List ℕ). bytes_eq (take 8 d) (take 8 (sha256 s))) (sym behind)
    ∙ ap (λ (s : List ℕ). bytes_eq (take 8 d) (take 8 s)) (sym is)
    ∙ itself

pub counts_by : (x y : List ℕ) (z : ℕ) → pair_at y 0 ≡ z → z ≡ zeros_in x 2 4094
    → ((i : ℕ) → 2 ≤ i → slice_index y i ≡ slice_index x i) → counts y ≡ true
counts_by x y z said is same = eq-eqb (pair_at y 0) (zeros_in y 2 4094)
    (said ∙ is ∙ zeros_alike x y 2 4094 (λ i low. sym (same (2 + i) (omega arith))))
