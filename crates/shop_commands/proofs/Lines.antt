-- The lines of 1 to n, one more.
use Rattle.std.proofs.Common.{◌≡◌, ℕ, suc, List, Option, ◌+◌, ◌++◌, ◌≤◌, ap, drop, length, subst, sym, arith, ◌∙◌}
use Rattle.std.proofs.lemmas.List.{append_assoc, append-nil}
use Rattle.std.proofs.Math.ListN.{drop_of_length-le}
use Rattle.std.specs.Io.KnownBytes.{Appends}
use Rattle.std.proofs.KnownBytes.{Appends-nil, Appends-trans}
use Rattle.shop_commands.specs.Shows.{up_to}

-- nothing was printed yet
pub none-yet : (a : Option (List ℕ)) (line : ℕ → List ℕ) → Appends a a (up_to 0 line)
unfolding up_to
none-yet a line = Appends-nil a

-- the lines of one number more
pub one-more : (a b c : Option (List ℕ)) (n : ℕ) (line : ℕ → List ℕ) → Appends a b (up_to n line)
    → Appends b c (line (n + 1))
    → Appends a c (up_to (n + 1) line)
unfolding up_to
one-more a b c n line before more =
    let next : n + 1 ≡ suc n = omega arith in
    subst (λ (m : ℕ). Appends a c (up_to m line)) (sym next)
    (Appends-trans a b c (up_to n line) (line (suc n)) before (subst (λ (m : ℕ). Appends b c (line m)) next more))

-- one number's lines stand before those behind them
pub one-before : (n : ℕ) (line : ℕ → List ℕ) (rest : List ℕ)
    → up_to n line ++ (line (n + 1) ++ rest) ≡ up_to (n + 1) line ++ rest
unfolding up_to
one-before n line rest =
    let next : suc n ≡ n + 1 = omega arith in
    ap (λ m. up_to n line ++ (line m ++ rest)) (sym next) ∙ sym (append_assoc (up_to n line) (line (suc n)) rest)
    ∙ ap (λ m. up_to m line ++ rest) next

-- behind all of a room nothing stands
pub none-behind : (n : ℕ) (line : ℕ → List ℕ) (room : List ℕ) (end : ℕ) → length room ≤ end
    → up_to n line ++ drop end room ≡ up_to n line
none-behind n line room end le = ap (λ rest. up_to n line ++ rest) (drop_of_length-le room le)
    ∙ append-nil (up_to n line)
