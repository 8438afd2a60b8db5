-- The digits are those that stand at the place.
use Rattle.request_cards.proofs.Widths.{field_text, none_then}
use Rattle.request_cards.proofs.fixed.read_fixed.Goals as goal

pub returns-clause-none : goal.returns-clause-none
returns-clause-none c =
    none_then c.parse_digits.result _ _ c.parse_digits.ensures.none
    (λ none n rest e. none n (field_text c.args.bytes.now rest c.args.at c.args.width n e))
