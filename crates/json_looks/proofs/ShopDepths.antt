-- How deep the object of a shop nests.
use Rattle.std.proofs.Common.{◌≤◌, ◌∷◌, [], ℕ, List, None, Option, Some, arith}
use Rattle.std.specs.Prelude.{option_map}
use Rattle.json_looks.specs.Objects.{up_to}
use Rattle.json_looks.specs.Shops.{card_item, card_items, shop_data, till_item, till_items, told_data}
use Rattle.json_looks.proofs.Depths.{AreFlat, items-flat, numbered-flat}
use Rattle.request_cards.specs.Ledgers.{State}
use Rattle.request_cards.specs.Requests.{Ask}
use Rattle.request_cards.specs.Tables.{told_of}
use Rattle.request_cards.specs.declared.answer.Answer.{Answer}
use Rattle.serde_json.specs.Data.{Data, depth}

card-flat : (item : ℕ) (quantity : Option ℕ) → AreFlat 1 (card_item item quantity)
card-flat item None = tt
card-flat item (Some quantity) = (omega arith, tt)

told-flat : (told : Option (Ask × Answer)) → depth (told_data told) ≤ 1
told-flat None = omega arith
told-flat (Some told) = omega arith

till-flat : (till : ℕ) (kept prior : Option (Ask × Answer)) → AreFlat 2 (till_item till kept prior)
till-flat till None prior = tt
till-flat till (Some told) prior =
    let last = told-flat (Some told) in
    let before = told-flat prior in
    (omega arith, tt)

-- a shop
pub shop-flat : (name : List ℕ) (top : ℕ) (state : State) → depth (shop_data name top state) ≤ 127
shop-flat name top state =
    let card : ℕ → List Data = λ item. card_item item (state.ledger.cards item) in
    let till : ℕ → List Data = λ n. till_item n (option_map (told_of n) (state.ledger.kept n))
    (option_map (told_of n) (state.prior n)) in
    let cards = items-flat 1 (up_to 10160 card) (numbered-flat 1 card (λ item. card-flat item (state.ledger.cards item)) 10160) in
    let tills = items-flat 2 (up_to 64 till) (numbered-flat 2 till
    (λ n. till-flat n (option_map (told_of n) (state.ledger.kept n)) (option_map (told_of n) (state.prior n))) 64) in
    omega arith
