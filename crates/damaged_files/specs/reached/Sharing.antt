-- Sectors that several have. Our own.
use Rattle.std.specs.Prelude.{◌≡◌, ℕ, suc, List, [], ◌∷◌, ◌++◌, None, Option, Some, if◌then◌else◌, nat_eq, nat_le}
use Rattle.d64_image.specs.Images.{Image}
use Rattle.d64_image.specs.Places.{index_of}
use Rattle.d64_image.specs.declared.place.Place.{Place}
use Rattle.disk_layout.specs.Directory.{map_place}
use Rattle.disk_layout.specs.declared.faults.Fault.{Fault}
use Rattle.disk_layout.specs.declared.faults.Fault.TheVariants.{OwnedTwice}
use Rattle.disk_layout.specs.declared.slot.Slot.{Slot}
use Rattle.damaged_files.specs.reached.Reached.{IsReached}

-- how many of these are the sector with this index in an image
unfoldable pub count_at : ℕ → List Place → ℕ
count_at i [] = 0
count_at i (p ∷ ps) = if nat_eq (index_of p) i then suc (count_at i ps) else count_at i ps

-- the first of these blocks that several have
unfoldable pub first_shared : List Place → List Place → Option Place
first_shared all [] = None
first_shared all (p ∷ ps) = if nat_le 2 (count_at (index_of p) all) then Some p else first_shared all ps

-- the fault of a file whose first shared block is this one
abbrev pub shared_fault : Option Place → Option Fault
shared_fault None = None
shared_fault (Some p) = Some (OwnedTwice p)

-- these blocks can be reached of the files of these entries, of one entry after the other
abbrev pub AreReached : Image → List Slot → List Place → Type 0
AreReached img [] all = all ≡ []
AreReached img (s ∷ ss) all = (blocks rest : List Place) × (fault : Option Fault) × (last : ℕ)
    × IsReached img s blocks fault last × AreReached img ss rest × (all ≡ blocks ++ rest)

-- the sectors that are somebody's: the map's, the directory's, and the blocks that can be reached of each entry's file;
-- once for each whose they are
abbrev pub IsOwned : Image → (directory : List Place) → List Slot → List Place → Type 0
IsOwned img directory slots all = (blocks : List Place) × AreReached img slots blocks
    × (all ≡ map_place ∷ (directory ++ blocks))
