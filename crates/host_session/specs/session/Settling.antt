-- A shop's disk that is brought to rest, and the table of the tills' cards that opening has read. All of it is our own.
use Rattle.std.specs.Prelude.{◌≡◌, ◌≤◌, ℕ, false, List, [], Option}
use Rattle.d64_image.specs.Images.{Image}
use Rattle.request_cards.specs.CardTexts.{Card}
use Rattle.request_cards.specs.Tables.{nth}
use Rattle.host_session.specs.shop.LoadedShop.{HasTills}
use Rattle.host_session.specs.shop.Shop.{IsShop, Shop, intents, is_old}

-- the image is the shop's, and the table has its tills' cards
pub record HasTable (img : Image) (s : Shop) (table : List (Option Card)) : Type 0 where
  pub shop : IsShop img s
  pub tills : HasTills shop.files table

-- and no intent is open
pub record HasClosedTable (img : Image) (s : Shop) (table : List (Option Card)) : Type 0 where
  pub has : HasTable img s table
  pub no_intent : intents table ≡ []

-- and none of the first cards is of version 1
pub record HasNewTable (img : Image) (s : Shop) (table : List (Option Card)) (last : ℕ) : Type 0 where
  pub closed : HasClosedTable img s table
  pub no_old_card : (till : ℕ) → till ≤ last → is_old (nth table till) ≡ false
