-- A stock card is read where its text is.
use Rattle.request_cards.proofs.CardReading.{stock_is}
use Rattle.request_cards.proofs.laws.stock_cards_are_read.Goals as goal

pub returns : goal.returns
returns c = stock_is
