-- What was read is all that was left, since it isn't as much as was asked for.
use Rattle.std.proofs.Common.{◌≡◌, ◌<◌, ◌++◌, ◌∙◌, ◌∷◌, ℕ, List, [], Option, Some, None, ap, arith, length, refl, subst, suc, take, zero}
use Rattle.std.specs.Prelude.{IfSome, option_map, vec_items}
use Rattle.std.specs.Io.Take.{take_inner, take_limit, take_remaining}
use Rattle.std.specs.declared.io.traits.Take.{Take}
use Rattle.image_file.proofs.reading.read_script.Goals as goal

-- fewer than n can be taken only of fewer than n
take-short : (n : ℕ) (all : List ℕ) → length (take n all) < n → take n all ≡ all
take-short zero all less = absurd omega (arith, less)
take-short (suc n) [] less = refl
take-short (suc n) (x ∷ all) less = ap (λ (xs : List ℕ). x ∷ xs) (take-short n all omega (arith, less))

of-front : (n : ℕ) (known : Option (List ℕ)) (bytes : List ℕ) → length bytes < n
    → IfSome (option_map (take n) known) (λ all. bytes ≡ [] ++ all) → IfSome known (λ all. bytes ≡ all)
of-front n None bytes less given = tt
of-front n (Some all) bytes less given = given ∙ take-short n all (subst (λ (xs : List ℕ). length xs < n) given less)

whole : {R : Type 0} (remaining : R → Option (List ℕ)) (t : Take R) (reader : R) (n : ℕ) (before bytes : List ℕ)
    → take_limit t ≡ n → take_inner t ≡ reader → before ≡ [] → length bytes < n
    → IfSome (take_remaining remaining t) (λ all. bytes ≡ before ++ all)
    → IfSome (remaining reader) (λ all. bytes ≡ all)
whole {R} remaining t reader n before bytes limit inner empty less given =
    of-front n (remaining reader) bytes less
    (subst (λ (xs : List ℕ). IfSome (option_map (take n) (remaining reader)) (λ all. bytes ≡ xs ++ all)) empty
    (subst (λ (m : ℕ). IfSome (option_map (take m) (remaining reader)) (λ all. bytes ≡ before ++ all)) limit
    (subst (λ (r : R). IfSome (option_map (take t.limit) (remaining r)) (λ all. bytes ≡ before ++ all)) inner given)))

pub returns : goal.returns
returns g c =
    whole g.R.Read.remaining c.take-front.result c.args.reader 16777217 (vec_items c.in_ok-bytes.bytes)
    (vec_items c.read_to_end.new.buf) c.take-front.ensures.limit c.take-front.ensures.inner c.in_ok-bytes.ensures.items
    (omega (arith, c.if-len-gt-MOST_SCRIPT.false, c.len.ensures)) c.in_ok-read_to_end.ensures.bytes
