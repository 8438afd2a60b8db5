-- The text and its reading agree.
use Rattle.std.proofs.Common.{refl}
use Rattle.request_cards.specs.CardReading.{stock_card_of}
use Rattle.request_cards.specs.CardTexts.{IsStockText}
use Rattle.request_cards.proofs.CardReading.{is_read, stock_is}
use Rattle.request_cards.proofs.stock_card.StockCard.parse.Goals as goal

pub returns-clause-exact : goal.returns-clause-exact
returns-clause-exact c =
    let bytes = c.args.bytes.now in
    is_read (IsStockText bytes) (stock_card_of bytes) c.read.result (stock_is bytes) c.read.result refl
    c.read.ensures.found c.read.ensures.none
