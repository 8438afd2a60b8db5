-- What the creation of a relative file leaves. Our own.
use Rattle.std.specs.Prelude.{ℕ, ◌≡◌, ◌⊎◌, ◌<◌, ◌*◌, ◌/◌, ◌++◌, ◌∷◌, [], List, Contains, if◌then◌else◌, length, map}
use Rattle.std.specs.Prelude.{nat_lt, replicate, slice_range}
use Rattle.d64_image.specs.Images.{Image, sector}
use Rattle.disk_layout.specs.Directory.{map_place, type_byte}
use Rattle.disk_layout.specs.Layout.{File, IsLayout, Layout, record_length}
use Rattle.disk_layout.specs.Map.{IsFirstOn, IsFullTrack}
use Rattle.disk_layout.specs.Records.{empty_record, records}
use Rattle.disk_layout.specs.Rest.{IsNamed, header_of, slot_name}
use Rattle.disk_layout.specs.Same.{AddsFile, stays_of}
use Rattle.disk_layout.specs.View.{blocks_free}
use Rattle.disk_layout.specs.Whole.{IsWhole}
use Rattle.rel_records.specs.File.{IsFileOf, entry_of}
use Rattle.rel_records.specs.Usable.{StaysClean}
use Rattle.rel_records.specs.creation.Room.{AreFullSectors, IsFirstRoom}
use Rattle.disk_layout.specs.declared.slot.Slot.{Slot}
use Rattle.rel_records.specs.declared.rel_file.RelFile.{RelFile}

-- c has the layout l as a has it, and its files with all their bytes
pub record HasFilesOf (a : Image) (l : Layout) (c : Image) : Type 0 where
  pub layout : IsLayout c l
  pub files : map (stays_of c) l.files ≡ map (stays_of a) l.files
  pub header : header_of c ≡ header_of a

-- the slot of a new file: the first free one of the directory, or, if all are used, the first of a new sector after
-- them, the lowest free one of track 18
abbrev pub IsNewSlot : Image → Layout → Layout → Slot → Type 0
IsNewSlot old l m s =
    (IsFirstRoom old l.directory s.sector s.number × (m.directory ≡ l.directory))
    ⊎ (AreFullSectors old l.directory × (IsFirstOn (sector old map_place) 18 s.sector
    × ((s.number ≡ 0) × (m.directory ≡ l.directory ++ s.sector ∷ []))))

-- c is as clean as a, and has the files of a and one more, a relative one that isn't locked, of this name and record
-- length: one block of empty records
pub record HasFileMore (a : Image) (l : Layout) (name : List ℕ) (L : ℕ) (c : Image) : Type 0 where
  pub layout : Layout
  pub sound : IsLayout c layout
  pub clean : StaysClean a l c layout
  pub file : File
  pub adds : AddsFile a c l layout file
  pub slot : IsNewSlot a l layout file.slot
  pub kind : type_byte file.slot ≡ 132
  pub named : IsNamed name file
  pub size : record_length file.slot ≡ L
  pub one : length file.blocks ≡ 1
  pub records_are : records c file ≡ replicate (254 / L) (empty_record L)

-- every image held: it has the files of before, or one more; if all files were whole, they are
abbrev pub IsCreating : Image → Layout → List ℕ → ℕ → Image → Type 0
IsCreating a l name L c = (HasFilesOf a l c ⊎ HasFileMore a l name L c) × (IsWhole a → IsWhole c)

-- how many sectors are written: map, data block, side sector, and the one with the free slot; if all eight slots of
-- each directory sector are used, a new one and the last one with its link
abbrev pub creation_writes : Layout → ℕ
creation_writes l = if nat_lt (length l.files) (8 * length l.directory) then 4 else 5

-- the name belongs to an entry, of whatever type
abbrev pub IsTakenName : Layout → List ℕ → Type 0
IsTakenName l name = (f : File) × Contains l.files f × (slice_range f.slot.bytes 5 21 ≡ slot_name name)

-- there is no room: fewer than n free blocks, or neither a free slot nor a free sector for the directory
abbrev pub HasNoRoomFor : Image → Layout → ℕ → Type 0
HasNoRoomFor img l n = (blocks_free (sector img map_place) < n)
    ⊎ (AreFullSectors img l.directory × IsFullTrack (sector img map_place) 18)

-- for a relative file, which takes two
abbrev pub HasNoRoom : Image → Layout → Type 0
HasNoRoom img l = HasNoRoomFor img l 2

-- what a creation that is done leaves: one file more, and v is of that file
pub record IsMade (old : Image) (l : Layout) (name : List ℕ) (L : ℕ) (new : Image) (v : RelFile) : Type 0 where
  pub more : HasFileMore old l name L new
  pub of : IsFileOf new more.layout (entry_of v) more.file v

-- v, which was of the file f of old, is of the same file of new, with its bytes, at whatever place of the list
pub record StaysOf (old new : Image) (f : File) (v : RelFile) : Type 0 where
  pub layout : Layout
  pub place : ℕ
  pub file : File
  pub of : IsFileOf new layout place file v
  pub same : stays_of new file ≡ stays_of old f
