-- An image is one shop at most.
use Rattle.std.proofs.Common.{◌≡◌, ℕ, Bool, false, refl, sym, ◌∙◌, ap, subst}
use Rattle.std.specs.Prelude.{List, None, Option, Some, codes, length, option_map}
use Rattle.std.specs.Option.{option_and_then}
use Rattle.std.proofs.lemmas.Option.{none-some}
use Rattle.d64_image.specs.Images.{Image}
use Rattle.disk_layout.proofs.lemmas.layouts.Layouts.{IsLayout-one}
use Rattle.disk_layout.proofs.lemmas.layouts.Uniques.{IsFirst-one}
use Rattle.disk_layout.proofs.lemmas.blank.Tops.{IsTop-one}
use Rattle.disk_layout.specs.Layout.{File, Layout}
use Rattle.disk_layout.specs.Records.{records}
use Rattle.disk_layout.specs.Room.{IsTop}
use Rattle.disk_layout.specs.Rest.{IsFirst, rest_of}
use Rattle.request_cards.proofs.LastTwo.{keeps_last_two}
use Rattle.request_cards.specs.CardTexts.{Card}
use Rattle.request_cards.specs.Tables.{held_by}
use Rattle.request_cards.specs.declared.ledger.Ledger.{Ledger}
use Rattle.request_cards.specs.Lines.{HasLast, KeepsLastTwo}
use Rattle.request_cards.specs.Requests.{Ask}
use Rattle.host_session.specs.session.Standing.{IsStanding}
use Rattle.host_session.specs.shop.Files.{Files, HasFiles}
use Rattle.host_session.specs.shop.Shop.{IsSettled, IsShop, Shop, card_at, cards_in, shop_of, start_of}

-- an image has one pair of files, one rest and one top
pub HasFiles-one : (img : Image) (f g : Files) → HasFiles img f → HasFiles img g → f ≡ g
HasFiles-one img f g x y =
    let l : y.layout ≡ x.layout = IsLayout-one img y.layout x.layout y.is_layout x.is_layout in
    let P : Layout → Type 0 = λ k. IsFirst k (codes "STOCK") y.stock_place y.stock_file in
    let Q : Layout → Type 0 = λ k. IsFirst k (codes "REQUESTS") y.requests_place y.requests_file in
    let cards = IsFirst-one x.layout (codes "STOCK") x.stock_place y.stock_place x.stock_file y.stock_file x.stock_first
    (subst P l y.stock_first) in
    let answers = IsFirst-one x.layout (codes "REQUESTS") x.requests_place y.requests_place x.requests_file
    y.requests_file x.requests_first (subst Q l y.requests_first) in
    let R : Layout → Type 0 = λ k. IsTop k y.stock_place g.top in
    let S : ℕ → Type 0 = λ n. IsTop x.layout n g.top in
    let top : f.top ≡ g.top = IsTop-one x.layout x.stock_place f.top g.top x.top
    (subst S (sym cards.0) (subst R l y.top)) in
    let stock : f.stock ≡ g.stock = x.stock ∙ ap (records img) cards.1 ∙ sym y.stock in
    let requests : f.requests ≡ g.requests = x.requests ∙ ap (records img) answers.1 ∙ sym y.requests in
    let blocks : f.blocks ≡ g.blocks = x.blocks ∙ ap (λ (h : File). length h.blocks) cards.1 ∙ sym y.blocks in
    let same : rest_of img x.layout x.stock_place x.requests_place x.requests_file ≡ rest_of img y.layout y.stock_place
    y.requests_place y.requests_file
    = λ i. rest_of img (sym l i) (cards.0 i) (answers.0 i) (answers.1 i) in
    let rest : f.rest ≡ g.rest = x.rest ∙ same ∙ sym y.rest in
    λ i. record { stock = stock i; requests = requests i; blocks = blocks i; rest = rest i; top = top i }

-- and stands for one shop at most
pub IsShop-one : (img : Image) (s t : Shop) → IsShop img s → IsShop img t → s ≡ t
IsShop-one img s t x y = sym x.is ∙ ap shop_of (HasFiles-one img x.files y.files x.has y.has) ∙ y.is

-- what is kept of a till stands on one card, so what is before its last request has a last one after it
pub keeps-last_two : (img : Image) (s : Shop) → IsShop img s → (asks : List Ask) (till : ℕ)
    → KeepsLastTwo (start_of s) asks till
keeps-last_two img s x asks till =
    let P : Shop → Type 0 = λ u. HasLast (start_of u) till in
    keeps_last_two (start_of s) asks till (subst P x.is (both (card_at (cards_in x.files.requests) till)))
  where
    both : (o : Option Card) → option_map (λ (c : Card). c.newest) o ≡ None
        → option_and_then (λ (c : Card). c.second) o ≡ None
    both None none = refl
    both (Some c) none = absurd (none-some c.newest (sym none))

-- what a session's invariant says of any shop of its image
module _ (img now : Image) (dead : Bool) (l : Ledger) (same : now ≡ img) (v : IsStanding img dead l) where
  standing-one : (s : Shop) → IsShop now s → v.shop ≡ s
  standing-one s h = let P : Image → Type 0 = λ i. IsShop i s in IsShop-one img v.shop s v.is_shop (subst P same h)

  pub standing-top : (s : Shop) → IsShop now s → l.top ≡ s.top
  standing-top s h = v.top_is ∙ ap (λ (t : Shop). t.top) (standing-one s h)

  pub standing-tills : (s : Shop) → IsShop now s → l.tills ≡ s.tills
  standing-tills s h = v.tills_is ∙ ap (λ (t : Shop). t.tills) (standing-one s h)

  pub standing-settled : dead ≡ false → (s : Shop) → IsShop now s → IsSettled now s
  standing-settled alive s h =
      let P : Shop → Type 0 = λ t. IsSettled img t in
      let Q : Image → Type 0 = λ i. IsSettled i s in
      subst Q (sym same) (subst P (standing-one s h) (v.settled alive))

  pub standing-state : dead ≡ false → (s : Shop) → IsShop now s → held_by l ≡ s.state
  standing-state alive s h = v.state_is alive ∙ ap (λ (t : Shop). t.state) (standing-one s h)
