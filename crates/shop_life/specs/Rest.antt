-- What stays of a disk over a life besides the state of its shop. All of it is our own.
use Rattle.std.specs.Prelude.{◌≡◌, List}
use Rattle.d64_image.specs.Images.{Image}
use Rattle.disk_layout.specs.Layout.{IsSound}
use Rattle.host_session.specs.shop.Shop.{IsShop, Shop}

-- Each block of the image has one owner at most. The other files, the limit of new cards and the number of tills are those
-- of this shop.
pub record HasRestOf (s : Shop) (c : Image) : Type 0 where
  pub sound : IsSound c
  pub rest : (t : Shop) → IsShop c t → (t.rest ≡ s.rest) × (t.top ≡ s.top) × (t.tills ≡ s.tills)
