-- A request card is read where its text is.
use Rattle.request_cards.proofs.CardReading.{card_is}
use Rattle.request_cards.proofs.laws.request_cards_are_read.Goals as goal

pub returns : goal.returns
returns c = card_is
