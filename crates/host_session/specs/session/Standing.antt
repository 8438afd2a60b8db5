-- What an open session holds of the shop on its disk. All of it is our own.
use Rattle.std.specs.Prelude.{refl, ◌≡◌, Bool, false}
use Rattle.std.specs.Coded.{Coded, code_by, coded×, coded_bool}
use Rattle.d64_image.specs.Images.{Image}
use Rattle.request_cards.specs.declared.ledger.Ledger.{Ledger}
use Rattle.request_cards.specs.Tables.{held_by}
use Rattle.host_session.specs.shop.Shop.{IsSettled, IsShop, Shop}

-- a session as its callers see it
pub record View (D : Type 0) : Type 0 where
  pub disk : D
  pub dead : Bool

-- a view is coded as its disk and whether it is dead
abbrev pub view_code : {D : Type 0} → Coded D → Coded (View D)
view_code {D} code =
    code_by (D × Bool) (coded× code coded_bool) (λ v. (v.disk, v.dead)) (λ p. record { disk = p.0; dead = p.1 })
    (λ _. refl)

-- A session's image is that of a shop, whose limits its ledger has. If it isn't dead, the shop is settled, and the
-- ledger holds its state.
pub record IsStanding (img : Image) (dead : Bool) (l : Ledger) : Type 0 where
  pub shop : Shop
  pub is_shop : IsShop img shop
  pub top_is : l.top ≡ shop.top
  pub tills_is : l.tills ≡ shop.tills
  pub settled : dead ≡ false → IsSettled img shop
  pub state_is : dead ≡ false → held_by l ≡ shop.state
