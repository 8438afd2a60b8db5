-- What an image holds of a shop as an object of JSON. What its members are called is our own.
use Rattle.std.specs.Prelude.{◌≡◌, ℕ, List, [], ◌∷◌, None, Option, Some, codes, length, option_map}
use Rattle.d64_image.specs.Memory.{sectors_in}
use Rattle.host_session.specs.shop.Shop.{IsShop, Shop}
use Rattle.json_looks.specs.Entries.{typed}
use Rattle.json_looks.specs.Objects.{IsObjectPrinted, count, up_to}
use Rattle.request_cards.specs.Ledgers.{State}
use Rattle.request_cards.specs.Requests.{Ask}
use Rattle.request_cards.specs.Tables.{told_of}
use Rattle.request_cards.specs.Texts.{message_text, reply_text}
use Rattle.request_cards.specs.declared.answer.Answer.{Answer}
use Rattle.request_cards.specs.declared.reply.Reply.TheVariants.{Told}
use Rattle.request_cards.specs.declared.reply.Word.TheVariants.{Kept}
use Rattle.serde_json.specs.Data.{Data, array, member, no_members, null, object, string}
use Rattle.serde_json.specs.View.{items_of}

-- an item's card
abbrev pub card_data : (item quantity : ℕ) → Data
card_data item quantity =
    object (member (codes "item") (count item) (member (codes "quantity") (count quantity) no_members))

-- the same, if the item has one
abbrev pub card_item : ℕ → Option ℕ → List Data
card_item item None = []
card_item item (Some quantity) = card_data item quantity ∷ []

-- the cards of the first items, in their order
abbrev pub card_items : State → ℕ → List Data
card_items state n = up_to n (λ item. card_item item (state.ledger.cards item))

-- a request as its till sent it, and the reply that the till got; null if there is none
abbrev pub told_data : Option (Ask × Answer) → Data
told_data None = null
told_data (Some told) =
    object (member (codes "message") (typed (message_text told.0))
    (member (codes "reply") (typed (reply_text (Told told.0.till told.0.number (Kept told.1)))) no_members))

-- a till that has made a request: its last one, and the one before it
abbrev pub till_item : ℕ → (kept prior : Option (Ask × Answer)) → List Data
till_item till None prior = []
till_item till (Some told) prior =
    object (member (codes "last") (told_data (Some told)) (member (codes "prior") (told_data prior)
    (member (codes "till") (count till) no_members))) ∷ []

-- the first tills that have made requests, in their order
abbrev pub till_items : State → ℕ → List Data
till_items state n = up_to n (λ till. till_item till (option_map (told_of till) (state.ledger.kept till))
    (option_map (told_of till) (state.prior till)))

-- an image of this name with these cards and tills, and how far new cards may go
abbrev pub shop_with : (name : List ℕ) → (top : ℕ) → (cards tills : List Data) → Data
shop_with name top cards tills =
    object (member (codes "cards") (array (items_of cards))
    (member (codes "name") (string name)
    (member (codes "refused") null
    (member (codes "tills") (array (items_of tills))
    (member (codes "top") (count top) no_members)))))

-- an image of this name that is a shop's: its cards and its tills
abbrev pub shop_data : (name : List ℕ) → (top : ℕ) → State → Data
shop_data name top state = shop_with name top (card_items state 10160) (till_items state 64)

-- the image is a shop's, and what is shown of that was printed as such an object
pub record IsShown {W : Type 0} (contents : W → Option (List ℕ)) (name image : List ℕ) (old new : W) : Type 0 where
  pub size : length image ≡ 174848
  pub shop : Shop
  pub is_shop : IsShop (sectors_in image) shop
  pub printed : IsObjectPrinted contents (shop_data name shop.top shop.state) old new
