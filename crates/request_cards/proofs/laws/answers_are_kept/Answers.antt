-- Each row of the trade rule has its answer in the ranges of a card.
use Rattle.request_cards.proofs.Kept.{answer_is_kept}
use Rattle.request_cards.proofs.laws.answers_are_kept.Goals as goal

pub returns : goal.returns
returns c = answer_is_kept
