-- Files whose chain goes on past track 35, of images that have those tracks. Our own.
use Rattle.std.specs.Prelude.{◌≡◌, ◌≤◌, ◌⊎◌, ℕ, ◌-◌, List, None, Option, Some}
use Rattle.std.specs.Prelude.{if◌then◌else◌, length, slice_get, slice_index}
use Rattle.std.specs.List.{AllByRecursion}
use Rattle.d64_image.specs.Memory.{sectors_in}
use Rattle.d64_image.specs.declared.place.Place.{Place}
use Rattle.damaged_files.specs.reached.Sizes.{disk_of}
use Rattle.disk_layout.specs.declared.faults.Fault.{Fault}
use Rattle.disk_layout.specs.declared.slot.Slot.{Slot}
use Rattle.file_rescues.specs.Found.{HasNone, IsHad, apart_from_chain}
use Rattle.file_rescues.specs.declared.finding.Kind.{Kind}
use Rattle.long_chains.specs.Chains.{chain_of}
use Rattle.long_chains.specs.Sectors.{HasSector, has_more_tracks, sectors_in as count_in}

-- the sectors of an entry's file over all tracks of the image, if this ends its chain on tracks 1 to 35, and the image has more tracks
-- and the whole chain
abbrev pub long_chain : (image : List ℕ) → Slot → (broken : Option Fault) → Option (List ℕ)
long_chain image s None = None
long_chain image s (Some fault) =
    if has_more_tracks image then chain_of image (slice_index s.bytes 3) (slice_index s.bytes 4) else None

-- The first file of that name and kind has these sectors, past track 35 too. On tracks 1 to 35 these blocks of it can be reached. Its
-- broken chain aside, this fault is in the way of it, or none is
pub record IsLongFile (image : List ℕ) (kind : Kind) (name : List ℕ) (sectors : List ℕ) (fault : Option Fault) : Type 0 where
  pub size : length (disk_of image) ≡ 174848
  pub number : ℕ
  pub slot : Slot
  pub blocks : List Place
  pub last : ℕ
  pub found : Option Fault
  pub had : IsHad (sectors_in (disk_of image)) kind name number slot blocks last found
  pub chain : long_chain image slot had.broken ≡ Some sectors
  pub fault_is : fault ≡ apart_from_chain slot blocks had.ended had.all

-- such a file was found, with this entry, and its last block before it leaves track 35, if it has one. Each of its sectors lies in the
-- image
pub record IsFoundLong (image : List ℕ) (kind : Kind) (name : List ℕ) (sectors : List ℕ) (apart : Option Fault)
    (slot : Slot) (left : Option Place) : Type 0 where
  pub file : IsLongFile image kind name sectors apart
  pub entry : slot ≡ file.slot
  pub left_is : left ≡ slice_get file.blocks (length file.blocks - 1)
  pub inside : AllByRecursion (HasSector image) sectors

-- the first file of that name and kind hasn't: its chain is whole on tracks 1 to 35, or nowhere
pub record IsShortFile (image : List ℕ) (kind : Kind) (name : List ℕ) : Type 0 where
  pub number : ℕ
  pub slot : Slot
  pub blocks : List Place
  pub last : ℕ
  pub found : Option Fault
  pub had : IsHad (sectors_in (disk_of image)) kind name number slot blocks last found
  pub chain : long_chain image slot had.broken ≡ None

-- no file of that name and kind goes on past track 35: the image has no more tracks, or there is no such file, or it doesn't
abbrev pub IsNoLongFile : (image : List ℕ) → Kind → (name : List ℕ) → Type 0
IsNoLongFile image kind name = (count_in (length image) ≤ 683)
    ⊎ (((ended : Option Fault) × HasNone (sectors_in (disk_of image)) kind name ended) ⊎ IsShortFile image kind name)
