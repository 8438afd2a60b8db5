-- STOCK with empty records after its own. All of it is our own.
use Rattle.std.specs.Prelude.{ℕ, ◌+◌, ◌≤◌, ◌++◌, length, replicate}
use Rattle.d64_image.specs.Images.{Image}
use Rattle.disk_layout.specs.Records.{empty_record}
use Rattle.host_session.specs.shop.Files.{Files, HasFiles}

-- the files with m empty records after those of STOCK, which then has b blocks
abbrev pub grown : Files → ℕ → ℕ → Files
grown f m b = record f { stock = f.stock ++ replicate m (empty_record 18); blocks = b }

-- STOCK has grown by empty records, and everything else is as it was
abbrev pub HasGrown : Files → Image → Type 0
HasGrown f img = (m : ℕ) × (b : ℕ) × HasFiles img (grown f m b)

-- and the item's record is there
abbrev pub HasGrownTo : Files → ℕ → Image → Type 0
HasGrownTo f item img = (m : ℕ) × (b : ℕ) × HasFiles img (grown f m b) × (item ≤ length f.stock + m)
