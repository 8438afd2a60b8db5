-- The sector that a text names, part by part.
use Rattle.std.proofs.Common.{◌≡◌, ◌==◌, ℕ, List, [], Option, None, Some, Bor, ap, arith, refl, ◌∙◌}
use Rattle.std.specs.List.{after_first, before_first}
use Rattle.std.proofs.Math.ListN.{drop_of_length-le}
use Rattle.std.proofs.lemmas.Str.Pattern.{IsSplitOnceResult, split_once_first}
use Rattle.d64_image.specs.Places.{place_at}
use Rattle.line_text.specs.Numbers.{number_in}
use Rattle.line_text.proofs.lemmas.digits.Fields.{number_refused}
use Rattle.line_text.proofs.lemmas.digits.Numbers.{leads_first}
use Rattle.ledger_cli.specs.Numbers.{place_if_both, spelled_place}

-- no bytes spell no number
none-spelled : number_in 0 20 [] ≡ None
none-spelled = number_refused 0 20 [] (omega arith) (λ n low high leads.
    let digit = leads_first [] n [] leads in omega (arith, digit.0))

both-none : (t s : Option ℕ) → s ≡ None → place_if_both t s ≡ None
both-none None s none = refl
both-none (Some t) s none = rw none refl

-- a text without a slash names none
pub no-slash : (text : List ℕ) (r : Option (Bor (List ℕ) × Bor (List ℕ))) → IsSplitOnceResult 47 text r → r ≡ None
    → spelled_place text ≡ None
no-slash text r split is =
    let none = rw is at (split_once_first 47 text r split (omega arith)) in
    let after : after_first (λ b. b == 47) text ≡ [] = drop_of_length-le text (omega (arith, none)) in
    both-none (number_in 1 35 (before_first (λ b. b == 47) text)) _ (ap (number_in 0 20) after ∙ none-spelled)

-- one with a slash that of the numbers before and after it
pub spelled-parts : (text : List ℕ) (r : Option (Bor (List ℕ) × Bor (List ℕ))) (x : Bor (List ℕ) × Bor (List ℕ))
    → IsSplitOnceResult 47 text r → r ≡ Some x
    → spelled_place text ≡ place_if_both (number_in 1 35 x.0.now) (number_in 0 20 x.1.now)
spelled-parts text r x split is =
    let found = rw is at (split_once_first 47 text r split (omega arith)) in
    rw (found.1, found.2) refl

-- there is none without a track, and none without a sector
pub no-track : (t s : Option ℕ) → t ≡ None → place_if_both t s ≡ None
no-track t s none = rw none refl

pub both-given : (t s : Option ℕ) (m n : ℕ) → t ≡ Some m → s ≡ Some n → place_if_both t s ≡ place_at m n
both-given t s m n a b = rw (a, b) refl

pub no-sector : (t s : Option ℕ) → s ≡ None → place_if_both t s ≡ None
no-sector t s none = both-none t s none
