-- An image of which all but one sector is written, and then that one.
use Rattle.std.proofs.Common.{◌≡◌, ◌≤◌, ◌+◌, ◌-◌, ◌++◌, ◌∙◌, ℕ, List, ap, ap₂, arith, sym, length, take, drop}
use Rattle.std.proofs.Common.{length-append, length-take, append_assoc, append-nil, drop-drop, replicate}
use Rattle.std.proofs.Math.Seq.{take-append-add}
use Rattle.std.proofs.lemmas.List.{drop_at, take_at, take-append-drop}
use Rattle.image_file.specs.Remains.{ended_behind, grown, put_in}
use Rattle.image_file.proofs.lemmas.replacing.Indices.{length_grown}

-- no zeros are wanted where there are so many bytes
grown_same : (all : List ℕ) (n : ℕ) → n ≤ length all → grown all n ≡ all
grown_same all n le =
    let none : n - length all ≡ 0 = omega (arith, le) in
    ap (λ (k : ℕ). all ++ replicate k 0) none ∙ append-nil all

-- how the first bytes and the last were put, with k bytes between them, and the file ended behind
pub filled_up : (all first last : List ℕ) (k b e : ℕ) → b ≡ length first + k → e ≡ b + length last
    → (some : List ℕ) × (length some ≡ k) × (ended_behind (put_in (put_in all 0 first) b last) e ≡ first ++ some ++ last)
filled_up all first last k b e is_b is_e =
    let x : List ℕ = put_in all 0 first in
    let rest : List ℕ = drop (0 + length first) (grown all 0) in
    let zeros : List ℕ = replicate (b - length x) 0 in
    let behind : List ℕ = rest ++ zeros in
    let y : List ℕ = put_in x b last in
    let before : List ℕ = take b (grown x b) in
    let size : length before ≡ b = omega (arith, length-take b (grown x b), length_grown x b) in
    let some : List ℕ = take k behind in
    let parted : before ≡ first ++ some =
    ap (λ (n : ℕ). take n (grown x b)) is_b
    ∙ ap (take (length first + k)) (append_assoc first rest zeros)
    ∙ take-append-add first behind k in
    let both : length (before ++ last) ≡ e = omega (arith, size, is_e, length-append before last) in
    let tail : List ℕ = drop (b + length last) (grown x b) in
    let ended : ended_behind y e ≡ before ++ last =
    ap (take e) (append_assoc (before ++ last) tail (replicate (e - length y) 0))
    ∙ take_at (before ++ last) (tail ++ replicate (e - length y) 0) e both in
    (some, omega (arith, size, is_b, ap length parted, length-append first some), ended ∙ ap (λ (p : List ℕ). p ++ last) parted)

-- these put in the place of as many that stand behind the first bytes
pub sealed_up : (first some last put : List ℕ) (n : ℕ) → n ≡ length first → length put ≡ length some
    → put_in (first ++ some ++ last) n put ≡ first ++ put ++ last
sealed_up first some last put n is size =
    let all : List ℕ = first ++ some ++ last in
    let fits : n ≤ length all =
    omega (arith, is, length-append (first ++ some) last, length-append first some) in
    let same : grown all n ≡ all = grown_same all n fits in
    ap₂ (λ (a b : List ℕ). a ++ put ++ b)
    (ap (take n) (same ∙ append_assoc first some last) ∙ take_at first (some ++ last) n (sym is))
    (ap (drop (n + length put)) same
    ∙ drop_at (first ++ some) last (n + length put) (omega (arith, is, size, length-append first some)))

-- a list is its first n, the k behind them, and the rest
pub in_three : (xs : List ℕ) (n k m : ℕ) → m ≡ n + k → take n xs ++ take k (drop n xs) ++ drop m xs ≡ xs
in_three xs n k m is =
    append_assoc (take n xs) (take k (drop n xs)) (drop m xs)
    ∙ ap (λ (b : List ℕ). take n xs ++ b)
    (ap (λ (b : List ℕ). take k (drop n xs) ++ b) (ap (λ (j : ℕ). drop j xs) (omega (arith, is)) ∙ sym (drop-drop k n xs))
    ∙ take-append-drop k (drop n xs))
    ∙ take-append-drop n xs
