-- The text and its reading agree.
use Rattle.std.proofs.Common.{refl}
use Rattle.request_cards.specs.CardReading.{request_card_of}
use Rattle.request_cards.specs.CardTexts.{IsCardText}
use Rattle.request_cards.proofs.CardReading.{is_read, card_is}
use Rattle.request_cards.proofs.request_card.RequestCard.parse.Goals as goal

pub returns-clause-exact : goal.returns-clause-exact
returns-clause-exact c =
    let bytes = c.args.bytes.now in
    is_read (IsCardText bytes) (request_card_of bytes) c.read.result (card_is bytes) c.read.result refl
    c.read.ensures.found c.read.ensures.none
