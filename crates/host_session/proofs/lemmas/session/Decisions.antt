-- Each quantity on a disk at rest is one that a card can hold.
use Rattle.std.proofs.Common.{◌≡◌, ℕ, ◌≤◌, Bool, true, false, List, Option, Some}
use Rattle.std.proofs.Common.{None, refl, sym, ◌∙◌, ap, subst}
use Rattle.std.specs.Prelude.{IfSome, if◌then◌else◌, ◌==◌}
use Rattle.std.specs.Option.{option_and_then}
use Rattle.d64_image.specs.Images.{Image}
use Rattle.request_cards.proofs.CardReading.{stock_is}
use Rattle.request_cards.specs.CardReading.{stock_card_of}
use Rattle.request_cards.specs.CardTexts.{Card, Stock}
use Rattle.request_cards.specs.Trade.{Cards}
use Rattle.host_session.specs.shop.Files.{record_at}
use Rattle.host_session.specs.shop.Shop.{IsSettled, Shop, overlaid, quantities, quantity_if, quantity_in, results}

-- Each quantity on a disk at rest is one that a card can hold.
few-on_card : (stock : List (List ℕ)) (k : ℕ) → IfSome (quantities stock k) (λ q. q ≤ 999999999)
few-on_card stock k = at (record_at stock k)
  where
    few : (c : Stock) → c.quantity ≤ 999999999 → (b : Bool)
        → IfSome (if b then (Some c.quantity) else None) (λ q. q ≤ 999999999)
    few c le true = le
    few c le false = tt

    card : (bytes : List ℕ) (o : Option Stock) → stock_card_of bytes ≡ o
        → IfSome (option_and_then (quantity_if k) o) (λ q. q ≤ 999999999)
    card bytes None e = tt
    card bytes (Some c) e = few c ((stock_is bytes c).0 e).0.quantity_high (c.item == k)

    at : (o : Option (List ℕ)) → IfSome (option_and_then (quantity_in k) o) (λ q. q ≤ 999999999)
    at None = tt
    at (Some bytes) = card bytes (stock_card_of bytes) refl

-- the cards of a shop at rest are those that STOCK holds
pub settled-cards : (img : Image) (s : Shop) (x : IsSettled img s)
    → s.state.ledger.cards ≡ quantities x.shop.files.stock
settled-cards img s x =
    sym (ap (λ (y : Shop). y.state.ledger.cards) x.shop.is)
    ∙ ap (λ (cs : List Card). overlaid (results cs) (quantities x.shop.files.stock)) x.no_intent

pub settled-few : (img : Image) (s : Shop) → IsSettled img s → (k : ℕ)
    → IfSome (s.state.ledger.cards k) (λ q. q ≤ 999999999)
settled-few img s x k = subst (λ (cards : Cards). IfSome (cards k) (λ q. q ≤ 999999999)) (sym (settled-cards img s x))
    (few-on_card x.shop.files.stock k)
