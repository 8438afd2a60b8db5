-- What comes of a file that is put on a disk: a chain of sectors and an entry (1541 User's Guide, how files are stored,
-- directory format). The order of the writes is our own.
use Rattle.std.specs.Prelude.{◌≡◌, ◌≢◌, ◌⊎◌, ℕ, ◌+◌, ◌-◌, ◌*◌, ◌/◌, ◌≤◌, ◌++◌, [], ◌∷◌, List, Option, IfErr, OnOk}
use Rattle.std.specs.Prelude.{Result, drop, length, max, replicate, slice_get, slice_range, take}
use Rattle.byteorder.specs.Endian.{little_bytes}
use Rattle.d64_image.specs.History.{Changes, History, OnlyReads}
use Rattle.d64_image.specs.Images.{Image, Sector, sector}
use Rattle.d64_image.specs.declared.place.Place.{Place}
use Rattle.disk_layout.specs.Directory.{type_byte}
use Rattle.disk_layout.specs.Layout.{File, IsLayout, Layout, count_field}
use Rattle.disk_layout.specs.Records.{joined}
use Rattle.disk_layout.specs.Rest.{slot_name}
use Rattle.disk_layout.specs.Same.{AddsFile}
use Rattle.disk_layout.specs.Side.{link_bytes, padded, place_bytes}
use Rattle.disk_layout.specs.Whole.{IsWhole}
use Rattle.file_changes.specs.Entries.{IsFreeName, entries_of}
use Rattle.file_changes.specs.Faults.{TellsChange}
use Rattle.command_faults.specs.declared.faults.CommandFault.{CommandFault}
use Rattle.command_faults.specs.declared.faults.CommandFault.TheVariants.{Device, DiskFull, FileExists}
use Rattle.file_changes.specs.declared.file_type.FileType.{FileType}
use Rattle.file_changes.specs.declared.file_type.FileType.TheVariants.{Prg, Seq, Usr}
use Rattle.rel_records.specs.Usable.{StaysClean}
use Rattle.rel_records.specs.creation.Made.{HasFilesOf, HasNoRoomFor, IsNewSlot}

-- the type byte of a closed entry
abbrev pub type_number : FileType → ℕ
type_number Seq = 129
type_number Prg = 130
type_number Usr = 131

-- the data that a new file gets: an empty one gets a carriage return, as the drive writes it when it closes one
abbrev pub stored : List ℕ → List ℕ
stored [] = 13 ∷ []
stored (b ∷ bs) = b ∷ bs

-- how many sectors n bytes take, 254 in each: 1 for 254, 2 for 255
abbrev pub sectors_for : ℕ → ℕ
sectors_for n = (n + 253) / 254

-- the 256 bytes of a sector of a chain that holds these bytes, 254 at most, and then zeros: it links to the next sector
-- or, if it is the last, has 0 and the index of its last used byte. 00 03 48 49 and zeros for `HI`
abbrev pub chain_sector : Option Place → List ℕ → Sector
chain_sector next bytes = link_bytes next (length bytes + 1) ++ padded 254 bytes

-- these sectors, each of which links to the next, hold these bytes, 254 in each but the last
abbrev pub HoldsChain : Image → List Place → List ℕ → Type 0
HoldsChain img [] bytes = Unit {0}
HoldsChain img (p ∷ ps) bytes = (sector img p ≡ chain_sector (slice_get ps 0) (take 254 bytes))
    × HoldsChain img ps (drop 254 bytes)

-- the data of a file: 254 bytes of each sector, and of the last those up to its last index
abbrev pub data_of : Image → File → List ℕ
data_of img f = take (254 * (length f.blocks - 1) + max f.last 1 - 1) (joined img f.blocks)

-- bytes 2 to 31 of the slot of a file that isn't relative: type, first sector, name, nine bytes 0, block count. 82 11 00,
-- `GAME` and twelve A0, nine 00, 02 00
unfoldable pub plain_entry : FileType → List ℕ → Place → ℕ → List ℕ
plain_entry kind name first blocks =
    (type_number kind ∷ place_bytes first)
    ++ (slot_name name ++ (replicate 9 0 ++ little_bytes 2 blocks))

-- c is as clean as a, and has the files of a and one more, of this name and type, that isn't locked: it has this data,
-- and its block count is right
pub record HasPut (a : Image) (l : Layout) (name : List ℕ) (kind : FileType) (bytes : List ℕ) (c : Image) : Type 0
  where
    pub layout : Layout
    pub sound : IsLayout c layout
    pub clean : StaysClean a l c layout
    pub file : File
    pub adds : AddsFile a c l layout file
    pub slot : IsNewSlot a l layout file.slot
    pub kind_is : type_byte file.slot ≡ type_number kind
    pub named : slice_range file.slot.bytes 5 21 ≡ slot_name name
    pub blocks : length file.blocks ≡ sectors_for (length bytes)
    pub counted : count_field file.slot ≡ length file.blocks
    pub holds : data_of c file ≡ bytes

-- every image held: it has the files of before, or one more; if all files were whole, they are
abbrev pub IsPutting : Image → Layout → List ℕ → FileType → List ℕ → Image → Type 0
IsPutting a l name kind bytes c = (HasFilesOf a l c ⊎ HasPut a l name kind bytes c) × (IsWhole a → IsWhole c)

-- no entry has this name, of whatever type
abbrev pub IsNewName : Layout → List ℕ → Type 0
IsNewName l name = IsFreeName (entries_of l) (slot_name name)

-- A new file is refused for a cause, or isn't.
pub record RefusesPut {T : Type 0} (img : Image) (l : Layout) (name : List ℕ) (n : ℕ) (result : Result T CommandFault)
    : Type 0 where
  pub exists : IfErr result (λ e. e ≡ FileExists → ¬ (IsNewName l name))
  pub full : IfErr result (λ e. e ≡ DiskFull → HasNoRoomFor img l n × IsNewName l name)
  pub fits : OnOk result (¬ (HasNoRoomFor img l n) × IsNewName l name)

-- A file was put on the disk, or not; the disk has the layout l.
pub record PutsIn {D : Type 0} (S : History D) (old new : D) (l : Layout) (name : List ℕ) (kind : FileType)
    (bytes : List ℕ) (result : Result (Unit {0}) CommandFault) : Type 0 where
  pub ok : OnOk result (HasPut (S.image old) l name kind (stored bytes) (S.image new))
  pub refuses : RefusesPut (S.image old) l name (sectors_for (length (stored bytes))) result
  -- every image held, and the writes: the map, the file's sectors, and one or two of the directory
  pub moments : Changes S old new (sectors_for (length (stored bytes)) + 3)
      (IsPutting (S.image old) l name kind (stored bytes))

-- A file was put on a disk, or that was refused.
pub record Puts {D : Type 0} (S : History D) (old new : D) (name : List ℕ) (kind : FileType) (bytes : List ℕ)
    (result : Result (Unit {0}) CommandFault) : Type 0 where
  pub layout : (l : Layout) → IsLayout (S.image old) l → PutsIn S old new l name kind bytes result
  pub told : IfErr result (λ e. (e ≡ FileExists) ⊎ ((e ≡ DiskFull) ⊎ (e ≡ Device)))
  -- three times the eighteen sectors of the directory, and the map
  pub refused : IfErr result (λ e. e ≢ Device → OnlyReads S old new 55)
  pub reads : OnOk result (S.reads new ≤ S.reads old + 55)
  pub failures : TellsChange S old new result
