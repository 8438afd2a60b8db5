-- A disk whose shop lives, is changed by other commands, and lives on. All of it is our own.
use Rattle.std.specs.Prelude.{◌≡◌, ◌≤◌, ℕ, List, [], ◌∷◌}
use Rattle.d64_image.specs.History.{History}
use Rattle.d64_image.specs.Images.{Image}
use Rattle.host_session.specs.shop.Shop.{IsShop, Shop}
use Rattle.request_cards.specs.Ledgers.{number_of}
use Rattle.shop_life.specs.Lives.{IsLife, Step, off, went_all}
use Rattle.shop_life.specs.OneList.{AllHeld, HasOneList}

-- A change that keeps the cards: what requests change is as it was, and so are the tills. The other files may differ, and so
-- may the greatest item that a new card may have.
abbrev pub KeepsCards : Shop → Shop → Type 0
KeepsCards before after = (after.state ≡ before.state) × (after.tills ≡ before.tills)

-- the image's shop has each till's last number that this shop has, or a later one
abbrev pub HasNumbersOf : Shop → Image → Type 0
HasNumbersOf s c = (u : Shop) → IsShop c u → (till : ℕ)
    → number_of (s.state.ledger.kept till) ≤ number_of (u.state.ledger.kept till)

-- a life, then the disk as another command left it, and its shop
pub record Chapter (D : Type 0) : Type 0 where
  pub steps : List (Step D)
  pub next : D
  pub shop : Shop

module _ {D : Type 0} (hist : History D) where
  -- The life began on this disk and ended without a session. Then a command changed the disk and kept its cards.
  pub record IsChapter (disk : D) (x : Chapter D) : Type 0 where
    pub life : IsLife hist (off disk) x.steps
    pub last : D
    pub ended : went_all (off disk) x.steps ≡ off last
    pub kept : (t : Shop) → IsShop (hist.image last) t → KeepsCards t x.shop
    pub changed : IsShop (hist.image x.next) x.shop

  -- each chapter begins on the disk that the one before left
  abbrev pub AreChapters : D → List (Chapter D) → Type 0
  AreChapters disk [] = Unit {0}
  AreChapters disk (x ∷ xs) = IsChapter disk x × AreChapters x.next xs

  -- each has one list of requests, over the shop with which it begins
  abbrev pub HaveLists : Shop → D → List (Chapter D) → Type 0
  HaveLists s disk [] = Unit {0}
  HaveLists s disk (x ∷ xs) = HasOneList hist s (off disk) x.steps × HaveLists x.shop x.next xs

  -- each image held in them has P
  abbrev pub AllHeldIn : (Image → Type 0) → D → List (Chapter D) → Type 0
  AllHeldIn P disk [] = Unit {0}
  AllHeldIn P disk (x ∷ xs) = AllHeld hist P (off disk) x.steps × AllHeldIn P x.next xs
