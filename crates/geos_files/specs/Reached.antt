-- Which blocks a file of GEOS has, as far as they can be reached, and which fault is in the way of more (GEOS: VLIR). Which
-- fault is returned, and what a damaged record has, is our own.
use Rattle.std.specs.Prelude.{◌≡◌, ◌≤◌, ◌⊎◌, ◌+◌, ◌*◌, ◌-◌, ℕ, zero, suc, Bool, false, true, List, [], ◌∷◌, ◌++◌, Contains, None, Option, Some}
use Rattle.std.specs.Prelude.{get_or, if◌then◌else◌, length, nat_eq, slice_index}
use Rattle.std.specs.Option.{option_or}
use Rattle.d64_image.specs.Images.{Image, Sector, sector}
use Rattle.d64_image.specs.Places.{place_at}
use Rattle.d64_image.specs.declared.place.Place.{Place}
use Rattle.damaged_files.specs.reached.Reached.{IsReach}
use Rattle.disk_layout.specs.Chain.{EachOnce}
use Rattle.disk_layout.specs.declared.faults.Fault.{Fault}
use Rattle.disk_layout.specs.declared.faults.Fault.TheVariants.{BadLink}
use Rattle.geos_files.specs.declared.entries.GeosEntry.{GeosEntry}

-- The end of a part of a file. If the chain goes on, the next block would be one too many, or one that the file has already.
-- Then the fault is at the block that links to it, or at `from` if the part has none, and the last block counts with all of
-- its bytes
abbrev pub EndsPart : (most : ℕ) → (from : Place) → (had own rest : List Place) → (broken : Option Fault) → (end : ℕ)
    → (fault : Option Fault) → (last : ℕ) → Type 0
EndsPart most from had own [] broken end fault last = (fault ≡ broken) × (last ≡ end)
EndsPart most from had own (p ∷ ps) broken end fault last =
    ((length own ≡ most) ⊎ Contains (had ++ own) p)
    × (fault ≡ Some (BadLink (get_or own (length own - 1) from))) × (last ≡ 255)

-- A file that had these blocks has these now: the blocks of the chain from `first` came to them, at most so many, and up to
-- one that the file had already.
pub record IsPart (img : Image) (most : ℕ) (from first : Place) (had blocks : List Place) (fault : Option Fault) (last : ℕ)
    : Type 0
  where
    pub chain : List Place
    pub broken : Option Fault
    pub end : ℕ
    pub reach : IsReach img first chain broken end
    pub own : List Place
    pub rest : List Place
    pub split : chain ≡ own ++ rest
    pub few : length own ≤ most
    pub are : blocks ≡ had ++ own
    pub once : EachOnce (had ++ own)
    pub ends : EndsPart most from had own rest broken end fault last

-- What two bytes of the record block at `at` stand for: n blocks, the last of which is used up to index u. A track of 0 stands
-- for no record, or for an empty one: then u is the other byte. A place that the disk doesn't have is a fault; then the record
-- is an empty one, 00 FF. A record has at most 255 blocks, since CVT counts them in a byte.
abbrev pub IsRecordAt : Image → (at : Place) → (none : Bool) → (other : ℕ) → Option Place → (had blocks : List Place)
    → (n u : ℕ) → Option Fault → Type 0
IsRecordAt img at true other place had blocks n u fault = (blocks ≡ had) × (n ≡ 0) × (u ≡ other) × (fault ≡ None)
IsRecordAt img at false other None had blocks n u fault =
    (blocks ≡ had) × (n ≡ 0) × (u ≡ 255) × (fault ≡ Some (BadLink at))
IsRecordAt img at false other (Some first) had blocks n u fault =
    IsPart img 255 at first had blocks fault u × (length blocks ≡ length had + n)

abbrev pub IsRecord : Image → (at : Place) → (t s : ℕ) → (had blocks : List Place) → (n u : ℕ) → Option Fault → Type 0
IsRecord img at t s had blocks n u fault = IsRecordAt img at (nat_eq t 0) s (place_at t s) had blocks n u fault

-- The first records of a file, those before and one more. `pairs` has two bytes for each: how many blocks it has, and the
-- last index of its last one. The fault is the first one. The last index is that of the last record that has a block
pub record IsMore (before : (blocks : List Place) → (pairs : List ℕ) → Option Fault → ℕ → Type 0) (img : Image) (at : Place)
    (t s : ℕ) (blocks : List Place) (pairs : List ℕ) (fault : Option Fault) (last : ℕ) : Type 0
  where
    pub had : List Place
    pub old_pairs : List ℕ
    pub old_fault : Option Fault
    pub old_last : ℕ
    pub others : before had old_pairs old_fault old_last
    pub n : ℕ
    pub u : ℕ
    pub own_fault : Option Fault
    pub one : IsRecord img at t s had blocks n u own_fault
    pub pairs_are : pairs ≡ old_pairs ++ n ∷ u ∷ []
    pub fault_is : fault ≡ option_or old_fault own_fault
    pub last_is : last ≡ (if nat_eq n 0 then old_last else u)

-- the first k records of the record block at `at`, which holds these bytes, in a file that had these blocks before
abbrev pub AreRecords : Image → (at : Place) → Sector → (k : ℕ) → (had blocks : List Place) → (pairs : List ℕ)
    → Option Fault → ℕ → Type 0
AreRecords img at bytes zero had blocks pairs fault last =
    (blocks ≡ had) × (pairs ≡ []) × (fault ≡ None) × (last ≡ 255)
AreRecords img at bytes (suc k) had blocks pairs fault last =
    IsMore (AreRecords img at bytes k had) img at (slice_index bytes (2 + 2 * k)) (slice_index bytes (3 + 2 * k))
    blocks pairs fault last

-- What can be reached of a file of GEOS, up to this fault: its blocks are the info block, and then those of its chain; or the
-- record block, and then those of its 127 records. `pairs` has two bytes for each record. The last block is used up to the
-- index `last`.
abbrev pub IsGeosReachOf : Image → (info first : Place) → (has_records : Bool) → (blocks : List Place) → (pairs : List ℕ)
    → Option Fault → (last : ℕ) → Type 0
IsGeosReachOf img info first false blocks pairs fault last =
    IsPart img 683 info first (info ∷ []) blocks fault last × (pairs ≡ [])
IsGeosReachOf img info first true blocks pairs fault last =
    AreRecords img first (sector img first) 127 (info ∷ first ∷ []) blocks pairs fault last

abbrev pub IsGeosReach : Image → GeosEntry → (blocks : List Place) → (pairs : List ℕ) → Option Fault → (last : ℕ) → Type 0
IsGeosReach img entry blocks pairs fault last =
    IsGeosReachOf img entry.info entry.first entry.has_records blocks pairs fault last
