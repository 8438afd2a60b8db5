-- The card that card_of makes.
use Rattle.request_cards.proofs.request_card.RequestCard.followed_by.Goals as goal

pub returns : goal.returns
returns c = rw (← c.self.view_is) c.card_of.ensures
