-- A law of requests, wherever they begin.
use Rattle.request_cards.proofs.Ends.{ends_hold}
use Rattle.host_session.specs.shop.Shop.{start_of}
use Rattle.host_session.proofs.laws.both_ends.Goals as goal

pub returns : goal.returns
returns c = λ s. ends_hold (start_of s)
