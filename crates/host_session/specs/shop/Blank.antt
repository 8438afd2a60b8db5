-- The shop of a blank image. All of it is our own.
use Rattle.std.specs.Prelude.{ℕ, ◌≤◌, ◌*◌, List, [], ◌∷◌, ◌++◌}
use Rattle.d64_image.specs.Images.{Image, IsImage}
use Rattle.disk_layout.specs.Blank.{IsBlank, names_of, request_blocks}
use Rattle.disk_layout.specs.BlankLayout.{blank_top}
use Rattle.disk_layout.specs.Rest.{Rest}
use Rattle.request_cards.specs.Ledgers.{nothing}
use Rattle.host_session.specs.shop.Shop.{IsSettled, Shop}

-- two tills to each block of REQUESTS: if their number is odd, one more
abbrev pub blank_tills : ℕ → ℕ
blank_tills tills = 2 * request_blocks tills

-- no other files, the disk's name and id, and no record of REQUESTS past the tills'
abbrev pub blank_rest : List ℕ → List ℕ → ℕ → Rest
blank_rest name id tills = record {
  files = [];
  header = (18 ∷ 1 ∷ 65 ∷ 0 ∷ []) ++ names_of name id;
  count = blank_tills tills;
  past = [];
}

-- no cards, nothing kept of any till, and the blank image's top
abbrev pub blank_shop : List ℕ → List ℕ → ℕ → Shop
blank_shop name id tills = record {
  state = nothing;
  tills = blank_tills tills;
  top = blank_top tills;
  rest = blank_rest name id tills;
}

-- each blank image is the blank shop's, and at rest, whatever the disk held before
abbrev pub BlankIsAShop : Type 0
BlankIsAShop = (old new : Image) (name id : List ℕ) (tills : ℕ) → 1 ≤ tills → tills ≤ 64 → IsImage new
    → IsBlank old new name id tills → IsSettled new (blank_shop name id tills)
