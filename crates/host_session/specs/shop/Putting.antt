-- What the disk may hold while one record of the two files is written. All of it is our own.
use Rattle.std.specs.Prelude.{ℕ, ◌≤◌, ◌-◌, ◌⊎◌, List, [], get_or, length}
use Rattle.d64_image.specs.Images.{Image}
use Rattle.disk_layout.specs.Layout.{File, IsLayout, Layout, record_length}
use Rattle.disk_layout.specs.Records.{records}
use Rattle.disk_layout.specs.Rest.{IsFirst}
use Rattle.rel_records.specs.Written.{half_written}
use Rattle.rel_records.specs.growth.Growth.{blocks_for}
use Rattle.host_session.specs.shop.Files.{Files, HasFiles, with_record}

-- f, at place n of the layout l, is the first closed relative file of the name, and has a record r
pub record IsPlaced (img : Image) (name : List ℕ) (r : ℕ) (l : Layout) (n : ℕ) (f : File) : Type 0 where
  pub layout : IsLayout img l
  pub first : IsFirst l name n f
  pub low : 1 ≤ r
  pub there : r ≤ length (records img f)

-- f, at place n of the layout l, is the first closed relative file of the name, and a record r of its length ends
-- within the 720 blocks of the longest file
pub record IsInReach (img : Image) (name : List ℕ) (r : ℕ) (l : Layout) (n : ℕ) (f : File) : Type 0 where
  pub layout : IsLayout img l
  pub first : IsFirst l name n f
  pub low : 1 ≤ r
  pub some : 1 ≤ record_length f.slot
  pub few : blocks_for (record_length f.slot) r ≤ 720

-- the files with these bytes in a record of STOCK, which may then have this number of blocks
abbrev pub with_card : Files → ℕ → List ℕ → ℕ → Files
with_card f item bytes b = record f { stock = with_record f.stock item bytes; blocks = b }

-- STOCK has this card, and everything else is as it was
abbrev pub HasCard : Files → ℕ → List ℕ → Image → Type 0
HasCard f item bytes img = (b : ℕ) × HasFiles img (with_card f item bytes b)

-- a card of STOCK is as it was, or its part in one block is new, or it is new
abbrev pub IsPuttingCard : Files → ℕ → List ℕ → Image → Type 0
IsPuttingCard f item text img = ((b : ℕ) × HasFiles img (record f { blocks = b }))
    ⊎ (HasCard f item (half_written 18 item text (get_or f.stock (item - 1) [])) img ⊎ HasCard f item text img)

-- REQUESTS has this card of a till, and everything else is as it was
abbrev pub HasAnswer : Files → ℕ → List ℕ → Image → Type 0
HasAnswer f till text img = HasFiles img (record f { requests = with_record f.requests till text })

-- a till's card is as it was, or new
abbrev pub IsPuttingAnswer : Files → ℕ → List ℕ → Image → Type 0
IsPuttingAnswer f till text img = HasFiles img f ⊎ HasAnswer f till text img
