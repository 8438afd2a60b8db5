-- A file takes one more data block: what is kept in memory for it, what it leaves, and what it writes. The order of the
-- writes is our own.
use Rattle.std.specs.Prelude.{ℕ, ◌≡◌, ◌≢◌, ◌⊎◌, ◌+◌, ◌-◌, ◌*◌, ◌%◌, ◌<◌, ◌≤◌, ◌++◌, ◌∷◌, [], IsTrue, List, Some}
use Rattle.std.specs.Prelude.{Contains, if◌then◌else◌, length, nat_eq, slice_get, slice_index}
use Rattle.d64_image.specs.Images.{Image, IsSector, Sector, put, sector}
use Rattle.d64_image.specs.declared.place.Place.{Place}
use Rattle.disk_layout.specs.Chain.{byte}
use Rattle.disk_layout.specs.Directory.{map_place}
use Rattle.disk_layout.specs.Layout.{File, Layout, is_rel, record_length, sides_for}
use Rattle.disk_layout.specs.Map.{IsMapOf, IsTaken}
use Rattle.disk_layout.specs.Records.{filler, record_count, records}
use Rattle.disk_layout.specs.Side.{side_sector}
use Rattle.disk_layout.specs.View.{blocks_free}
use Rattle.layout_check.specs.Keeping.{IsCleanBut}
use Rattle.rel_records.specs.Others.{KeepsOthers, KeepsPlaces}
use Rattle.rel_records.specs.Usable.{StaysClean}
use Rattle.rel_records.specs.Written.{grown_by}
use Rattle.rel_records.specs.declared.growth.step_parts.Growing.{Growing}
use Rattle.rel_records.specs.declared.rel_file.RelFile.{RelFile}
use Rattle.rel_records.specs.growth.Growth.{full, records_had}

-- l is the layout of the image, which is clean except for some stray sectors, f is its relative file at place n, and p is
-- what is kept of them in memory
pub record IsAt (img : Image) (l : Layout) (n : ℕ) (f : File) (p : Growing) : Type 0 where
  pub strays : List Place
  pub clean : IsCleanBut strays img l
  pub there : slice_get l.files n ≡ Some f
  pub rel : IsTrue (is_rel f.slot)
  pub place : p.sector ≡ f.slot.sector
  pub number : p.number ≡ f.slot.number
  pub size : p.size ≡ record_length f.slot
  pub sides : p.sides.items ≡ f.sides
  pub blocks : p.blocks.items ≡ f.blocks
  pub map : p.map.bytes ≡ sector img map_place
  pub front : List Place
  pub last_place : Place
  pub last_is : f.blocks ≡ front ++ last_place ∷ []
  pub last : p.last ≡ sector img last_place
  pub directory : p.directory ≡ sector img f.slot.sector

-- p is what is kept in memory of an image that can be used and one of its relative files
abbrev pub StandsAt : Image → Growing → Type 0
StandsAt img p = (l : Layout) × (n : ℕ) × (f : File) × IsAt img l n f p

-- all whole records that fit into its blocks are there
abbrev pub IsFilledUp : File → Type 0
IsFilledUp f = record_count (length f.blocks) f.last (record_length f.slot) ≡ full (record_length f.slot)
    (length f.blocks)

-- and the file has all whole records that fit into its blocks
abbrev pub StandsFilled : Image → Growing → Type 0
StandsFilled img p = (l : Layout) × (n : ℕ) × (f : File) × IsAt img l n f p × IsFilledUp f

-- the number of sectors that the next block takes: two if the side sectors of n blocks are full
abbrev pub taken_next : ℕ → ℕ
taken_next n = if nat_eq (n % 120) 0 then 2 else 1

-- how many sectors are written for it: five, and if a side sector is new, each older one too
abbrev pub step_writes : ℕ → ℕ
step_writes n = if nat_eq (n % 120) 0 then (5 + sides_for n) else 5

-- the file has k blocks, all whole records that fit, what is kept in memory is of the image, and this is as clean as the
-- old one
pub record IsRunTo (old now : Image) (l : Layout) (n : ℕ) (f : File) (k : ℕ) (p : Growing) : Type 0 where
  pub layout : Layout
  pub file : File
  pub at : IsAt now layout n file p
  pub stays : StaysClean old l now layout
  pub others : KeepsOthers old now l layout n
  pub count : length file.blocks ≡ k
  pub filled : IsFilledUp file
  pub same_size : record_length file.slot ≡ record_length f.slot
  pub records_are : records now file ≡ grown_by (record_length f.slot) (full (record_length f.slot) k - records_had f)
      (records old f)
  pub places : KeepsPlaces old f file (grown_by (record_length f.slot) (full (record_length f.slot) k - records_had f)
      (records old f))

-- the last blocks are filled: the file has the blocks that it had, and the map is as it was
pub record HasFilled (old new : Image) (l : Layout) (n : ℕ) (f : File) (p q : Growing) : Type 0 where
  pub run : IsRunTo old new l n f (length f.blocks) q
  pub blocks : run.file.blocks ≡ f.blocks
  pub map : q.map.bytes ≡ p.map.bytes

-- the file has one more block, and the map has fewer free sectors, by those that the block takes
pub record HasBlockMore (old new : Image) (l : Layout) (n : ℕ) (f : File) (p q : Growing) : Type 0 where
  pub run : IsRunTo old new l n f (length f.blocks + 1) q
  pub free : blocks_free q.map.bytes + taken_next (length f.blocks) ≡ blocks_free p.map.bytes

-- the sector at q is as it was, or a side sector of this list with its exact bytes
abbrev pub IsSidedAt : Image → Image → List Place → List Place → ℕ → Place → Type 0
IsSidedAt old c blocks sides L q =
    (sector c q ≡ sector old q) ⊎ ((j : ℕ) × (slice_get sides j ≡ Some q) × (sector c q ≡ side_sector j blocks sides L))

-- every sector is as it was, or a side sector of this list with its exact bytes
abbrev pub IsSided : Image → List Place → List Place → ℕ → Image → Type 0
IsSided old blocks sides L c = (q : Place) → IsSidedAt old c blocks sides L q

-- the side sectors from this number on have their exact bytes
abbrev pub AreSidedFrom : ℕ → Image → List Place → List Place → ℕ → Type 0
AreSidedFrom k c blocks sides L = (j : ℕ) (q : Place) → k ≤ j → slice_get sides j ≡ Some q
    → sector c q ≡ side_sector j blocks sides L

-- the side sector of this number is written with its exact bytes, or nothing is
abbrev pub IsSideOr : Image → ℕ → List Place → List Place → ℕ → Image → Type 0
IsSideOr old number blocks sides L c = (c ≡ old)
    ⊎ ((q : Place) → slice_get sides number ≡ Some q → c ≡ put old q (side_sector number blocks sides L))

-- The same, with the last side sector written first: either nothing is written, or that one has its exact bytes.
pub record IsSidedInOrder (old : Image) (blocks sides : List Place) (L : ℕ) (c : Image) : Type 0 where
  pub each : IsSided old blocks sides L c
  pub first : (c ≡ old) ⊎ AreSidedFrom (length sides - 1) c blocks sides L

-- before the link is written: the image, the image with the new map, or that with the fresh block too and side
-- sectors, the last one first
abbrev pub IsBefore : Image → Growing → Place → Sector → Image → Type 0
IsBefore old p fresh block c =
    (c ≡ old) ⊎ ((c ≡ put old map_place p.map.bytes) ⊎ IsSidedInOrder (put (put old map_place p.map.bytes) fresh block)
    p.blocks.items p.sides.items p.size c)

-- the map with one more sector taken, which was free and is not on track 18
pub record TakesNext (old new : Sector) (p : Place) : Type 0 where
  pub off : p.track ≢ 18
  pub taken : IsTaken old new p
  pub free : blocks_free new + 1 ≡ blocks_free old
  pub unowned : (owned : List Place) → IsMapOf old owned → ¬ (Contains owned p)
  pub owned : (owned : List Place) → IsMapOf old owned → IsMapOf new (p ∷ owned)

-- what is kept of a file after growth is what growth kept in memory
pub record IsKeptOf (v : RelFile) (p : Growing) : Type 0 where
  pub sector : v.sector ≡ p.sector
  pub number : v.number ≡ p.number
  pub size : v.size ≡ p.size
  pub sides : v.sides.items ≡ p.sides.items
  pub blocks : v.blocks ≡ length p.blocks.items
  pub last : v.last ≡ slice_index p.last 1

-- the file has w blocks and all whole records that fit, and v is of it
pub record HasRun (old new : Image) (l : Layout) (n : ℕ) (f : File) (w : ℕ) (v : RelFile) : Type 0 where
  pub parts : Growing
  pub run : IsRunTo old new l n f w parts
  pub kept : IsKeptOf v parts

-- a data block whose bytes from data byte `from` of the file on are empty records; the bytes before and the link stay
pub record IsTailOf (img : Image) (place : Place) (at from L total : ℕ) (bytes : Sector) : Type 0 where
  pub link : (j : ℕ) → j < 2 → slice_index bytes j ≡ byte img place j
  pub kept : (j : ℕ) → j < 254 → at + j < from → slice_index bytes (2 + j) ≡ byte img place (2 + j)
  pub filled : (j : ℕ) → j < 254 → from ≤ at + j → slice_index bytes (2 + j) ≡ filler L total (at + j)
  pub is_sector : IsSector bytes

-- nothing was to be filled before the last block, or the block before it got its tail
abbrev pub FillsBefore : Image → Growing → ℕ → ℕ → Image → Type 0
FillsBefore old p from total c =
    ((254 * (length p.blocks.items - 1) ≤ from) × (c ≡ old))
    ⊎ ((from < 254 * (length p.blocks.items - 1))
    × ((place : Place) × (bytes : Sector) × (slice_get p.blocks.items (length p.blocks.items - 2) ≡ Some place)
    × IsTailOf old place (254 * (length p.blocks.items - 2)) from p.size total bytes × (c ≡ put old place bytes)))

-- the last of n data blocks, filled up with empty records, of which the file then has all that fit
pub record IsEnd (n L from : ℕ) (old new : Sector) : Type 0 where
  pub ends : slice_index new 0 ≡ slice_index old 0
  pub index : slice_index new 1 + 254 * (n - 1) ≡ full L n * L + 1
  pub kept : (j : ℕ) → j < 254 → 254 * (n - 1) + j < from → slice_index new (2 + j) ≡ slice_index old (2 + j)
  pub filled : (j : ℕ) → j < 254 → from ≤ 254 * (n - 1) + j
      → slice_index new (2 + j) ≡ filler L (full L n) (254 * (n - 1) + j)
