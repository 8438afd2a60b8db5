-- An image put over what a file holds, by four writes.
use Rattle.std.proofs.Common.{◌≡◌, ◌≤◌, ◌<◌, ◌+◌, ◌-◌, ◌++◌, ◌∙◌, ℕ, List, [], ap, ap₂, arith, refl, sym, length, take, drop, ⊎_elim}
use Rattle.std.proofs.Common.{length-append, length-take, append_assoc, append-nil, drop-drop, replicate}
use Rattle.std.proofs.lemmas.Bool.{cases_lt}
use Rattle.std.proofs.lemmas.List.{drop_all, drop_at, take_at}
use Rattle.image_file.specs.Remains.{grown, put_in}
use Rattle.image_file.proofs.lemmas.replacing.Indices.{length_grown}

-- no zeros are wanted where there are so many bytes
grown_same : (all : List ℕ) (n : ℕ) → n ≤ length all → grown all n ≡ all
grown_same all n le =
    let none : n - length all ≡ 0 = omega (arith, le) in
    ap (λ (k : ℕ). all ++ replicate k 0) none ∙ append-nil all

-- zeros up to n are none behind m
drop_grown : (all : List ℕ) (n m : ℕ) → n ≤ m → drop m (grown all n) ≡ drop m all
drop_grown all n m le = ⊎_elim
    (λ (less : length all < n).
    drop_all m (grown all n) (omega (arith, less, le, length_grown all n)) ∙ sym (drop_all m all (omega (arith, less, le))))
    (λ (enough : n ≤ length all). ap (drop m) (grown_same all n enough))
    (cases_lt (length all) n)

-- behind the first n bytes
drop_after : (xs ys : List ℕ) (n k : ℕ) → length xs ≡ n → drop (n + k) (xs ++ ys) ≡ drop k ys
drop_after xs ys n k is =
    ap (λ (j : ℕ). drop j (xs ++ ys)) (omega arith) ∙ sym (drop-drop k n (xs ++ ys)) ∙ ap (drop k) (drop_at xs ys n is)

-- bytes put behind the first n
put_after : (xs ys bs : List ℕ) (n : ℕ) → length xs ≡ n → put_in (xs ++ ys) n bs ≡ xs ++ bs ++ drop (length bs) ys
put_after xs ys bs n is =
    let same : grown (xs ++ ys) n ≡ xs ++ ys = grown_same (xs ++ ys) n (omega (arith, is, length-append xs ys)) in
    ap₂ (λ (a b : List ℕ). a ++ bs ++ b)
    (ap (take n) same ∙ take_at xs ys n is)
    (ap (drop (n + length bs)) same ∙ drop_after xs ys n (length bs) is)

-- bytes s put at n, the first n bytes, those from m on, and others in the place of s
pub image_put : (all a s b c : List ℕ) (n m e : ℕ) → length a ≡ n → length b ≡ length s → m ≡ n + length s
    → e ≡ m + length c → put_in (put_in (put_in (put_in all n s) 0 a) m c) n b ≡ a ++ b ++ c ++ drop e all
image_put all a s b c n m e is same is_m is_e =
    let g : List ℕ = grown all n in
    let front : List ℕ = take n g in
    let tail : List ℕ = drop (n + length s) g in
    let size : length front ≡ n = omega (arith, length-take n g, length_grown all n) in
    let left : tail ≡ drop m all =
    drop_grown all n (n + length s) (omega arith) ∙ ap (λ (j : ℕ). drop j all) (sym is_m) in
    -- a, s and what stands behind
    let second : put_in (put_in all n s) 0 a ≡ (a ++ s) ++ tail =
    put_after [] (front ++ s ++ tail) a 0 refl
    ∙ ap (λ (x : List ℕ). a ++ x)
    (ap (drop (length a)) (append_assoc front s tail)
    ∙ drop_at front (s ++ tail) (length a) (size ∙ sym is))
    ∙ sym (append_assoc a s tail) in
    let third : put_in (put_in (put_in all n s) 0 a) m c ≡ a ++ (s ++ (c ++ drop e all)) =
    ap (λ (x : List ℕ). put_in x m c) second
    ∙ put_after (a ++ s) tail c m (omega (arith, is, is_m, length-append a s))
    ∙ append_assoc (a ++ s) c (drop (length c) tail)
    ∙ append_assoc a s (c ++ drop (length c) tail)
    ∙ ap (λ (x : List ℕ). a ++ (s ++ (c ++ x)))
    (ap (drop (length c)) left ∙ drop-drop (length c) m all ∙ ap (λ (j : ℕ). drop j all) (omega (arith, is_e))) in
    ap (λ (x : List ℕ). put_in x n b) third
    ∙ put_after a (s ++ (c ++ drop e all)) b n is
    ∙ ap (λ (x : List ℕ). a ++ b ++ x) (drop_at s (c ++ drop e all) (length b) (sym same))
    ∙ sym (append_assoc (a ++ b) c (drop e all))
