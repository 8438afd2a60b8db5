-- When a file is cut short: one of its sectors was lost and now reads as the end of the chain. The file is then shorter
-- than its side sectors or its block count say. Chains, side sectors, counts and the map are those of the 1541 User's
-- Guide; what counts as cut is our own.
use Rattle.std.specs.Prelude.{◌≡◌, ◌⊎◌, ℕ, ◌-◌, ◌/◌, ◌<◌, ◌∷◌, ◌||◌, IsSome, IsTrue}
use Rattle.std.specs.Prelude.{None, Option, Some, [], length, Contains, replicate, slice_get}
use Rattle.d64_image.specs.Images.{Image, sector}
use Rattle.d64_image.specs.declared.place.Place.{Place}
use Rattle.disk_layout.specs.Chain.{named_at}
use Rattle.disk_layout.specs.Directory.{map_place}
use Rattle.disk_layout.specs.Layout.{File, Layout, count_field, is_rel, owners, record_length}
use Rattle.disk_layout.specs.Map.{IsFree}
use Rattle.disk_layout.specs.Listed.{HasStock, ListsWell, NeverGrows, is_plain, used_of}
use Rattle.disk_layout.specs.declared.slot.Slot.{Slot}

-- the side sectors of a relative file list more data blocks than they may
pub record IsListedPast (img : Image) (never_grows : Type 0) (f : File) : Type 0 where
  pub side : Place
  pub there : slice_get f.sides ((length f.blocks - 1) / 120) ≡ Some side
  pub past : ¬ (ListsWell img never_grows (sector img side) (used_of (length f.blocks)))

-- A document of GEOS with several records (VLIR): the entry names an info block, and byte 23 is 1. Its chain is an index;
-- the records have chains of their own, and the entry counts all of them.
abbrev pub IsVlir : Slot → Type 0
IsVlir s = IsSome (named_at s.bytes 21) × (record_length s ≡ 1)

-- an entry that names the info block of a file of GEOS counts it, too
abbrev pub info_blocks : Option Place → ℕ
info_blocks None = 0
info_blocks (Some p) = 1

-- the entry of a SEQ, PRG or USR counts more than n blocks of a chain, and those that it counts are one
abbrev pub CountsMore : Slot → ℕ → Type 0
CountsMore s n =
    IsTrue (is_plain s) × ¬ (IsVlir s) × (n < count_field s - info_blocks (named_at s.bytes 21))

-- The chain of the file, which ends at p, is too short: its side sectors list more; or its block count is greater while
-- the map has strays; or a sector of zeros ends it, as imaging tools leave one that they couldn't read.
abbrev pub IsShort : Image → (strays shop : Type 0) → File → Place → Type 0
IsShort img strays shop f p =
    (IsTrue (is_rel f.slot) × IsListedPast img (NeverGrows shop f.slot) f)
    ⊎ ((CountsMore f.slot (length f.blocks) × strays)
    ⊎ (IsTrue (is_rel f.slot || is_plain f.slot) × (sector img p ≡ replicate 256 0)))

-- the chain of the file ends at p, too short
pub record EndsShort (img : Image) (strays shop : Type 0) (f : File) (p : Place) : Type 0 where
  pub last : slice_get f.blocks (length f.blocks - 1) ≡ Some p
  pub short : IsShort img strays shop f p

-- the file has no chain, though its entry, in the directory sector p, counts blocks while the map has strays
pub record IsEmptied (strays : Type 0) (f : File) (p : Place) : Type 0 where
  pub none : f.blocks ≡ []
  pub counts : CountsMore f.slot 0
  pub lost : strays
  pub entry : f.slot.sector ≡ p

-- the file is cut short, and p is where it ends now
abbrev pub IsCutIn : Image → (strays shop : Type 0) → File → Place → Type 0
IsCutIn img strays shop f p = EndsShort img strays shop f p ⊎ IsEmptied strays f p

-- a sector is taken in the map but owned by nobody
abbrev pub HasStray : Image → Layout → Type 0
HasStray img l = (p : Place) × ¬ (IsFree (sector img map_place) p) × ¬ (Contains (map_place ∷ owners l) p)

-- the file of this layout is cut short, and ends at p
abbrev pub IsCutAt : Image → Layout → File → Place → Type 0
IsCutAt img l f p = IsCutIn img (HasStray img l) (HasStock l) f p

-- the entry of the file counts more blocks than its chain has, which ends at p: at its last block, or at the entry if it has
-- none
abbrev pub HasFewer : File → Place → Type 0
HasFewer f p = CountsMore f.slot (length f.blocks)
    × ((slice_get f.blocks (length f.blocks - 1) ≡ Some p) ⊎ ((f.blocks ≡ []) × (f.slot.sector ≡ p)))
