-- The value that the matches give is the first of the argument's rows, and an empty text where there is none.
use Rattle.std.proofs.Common.{◌≡◌, List, ℕ, Option, Some, None, [], Bor, refl, ap, ◌∙◌}
use Rattle.std.specs.Prelude.{option_map, unwrap_or}
use Rattle.clap.specs.Words.{found_of}
use Rattle.clap.proofs.WalkLemmas.{first_value-rows}
use Rattle.ledger_cli.proofs.values.value_of.Goals as goal

-- the text of what is there, or of the other
text_of : (o : Option (Bor (List ℕ))) (other : Bor (List ℕ))
    → (unwrap_or o other).now ≡ unwrap_or (option_map (λ (s : Bor (List ℕ)). s.now) o) other.now
text_of (Some s) other = refl
text_of None other = refl

pub returns : goal.returns
returns c =
    ap (λ (s : Bor (List ℕ)). s.now) c.unwrap_or.ensures ∙ text_of c.get_str.result _
    ∙ ap (λ (o : Option (List ℕ)). unwrap_or o []) (c.get_str.ensures
    ∙ first_value-rows (found_of c.args.matches.now) c.args.name.now)
