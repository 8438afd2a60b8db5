-- The goods of a shop before requests and after them. All of it is our own.
use Rattle.std.specs.Prelude.{◌≡◌, ◌+◌, List}
use Rattle.host_session.specs.shop.Shop.{Shop, start_of}
use Rattle.request_cards.specs.Ledgers.{fresh}
use Rattle.request_cards.specs.Requests.{Ask}
use Rattle.request_cards.specs.Sums.{all_goods, brought, taken}

-- No goods appeared and none were lost: what the first shop has on hand of all items, and what came in by these requests, is
-- what the other has and what went out. Each new request counts once.
abbrev pub GoodsAgree : Shop → List Ask → Shop → Type 0
GoodsAgree s asks t = let news = fresh (start_of s) asks in let cards = s.state.ledger.cards in
    all_goods cards + brought s.top cards news ≡ all_goods t.state.ledger.cards + taken s.top cards news
