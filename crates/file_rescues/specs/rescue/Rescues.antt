-- What is rescued of the files of an image, and the files that are made of it. Our own.
use Rattle.std.specs.Prelude.{◌≡◌, ◌≢◌, ◌⊎◌, ◌≤◌, ℕ, ◌+◌, Bool, List, [], ◌∷◌, ◌++◌, None, Option, Some, codes}
use Rattle.std.specs.Prelude.{false, true}
use Rattle.std.specs.Prelude.{filter, if◌then◌else◌, length, map, nat_eq, nat_lt}
use Rattle.std.specs.List.{AllByRecursion}
use Rattle.std.specs.Option.{is_some, option_or}
use Rattle.sha2.specs.Sha256.{sha256}
use Rattle.d64_image.specs.Images.{Image}
use Rattle.d64_image.specs.Memory.{sectors_in}
use Rattle.d64_image.specs.Places.{index_of}
use Rattle.d64_image.specs.declared.place.Place.{Place}
use Rattle.disk_layout.specs.Directory.{type_byte, used_slots}
use Rattle.disk_layout.specs.declared.faults.Fault.{Fault}
use Rattle.disk_layout.specs.declared.slot.Slot.{Slot}
use Rattle.damaged_files.specs.reached.Reached.{IsReached}
use Rattle.damaged_files.specs.reached.Sharing.{first_shared, shared_fault}
use Rattle.damaged_files.specs.reached.Sizes.{disk_of}
use Rattle.file_rescues.specs.Bytes.{file_bytes}
use Rattle.file_rescues.specs.Found.{records_length, unclosed}
use Rattle.file_rescues.specs.Long.{long_chain}
use Rattle.file_rescues.specs.Records.{records_of, records_text}
use Rattle.command_faults.specs.declared.faults.CommandFault.{CommandFault}
use Rattle.command_faults.specs.declared.faults.CommandFault.TheVariants as faults
use Rattle.geos_files.specs.Entries.{geos_entry}
use Rattle.geos_files.specs.Reached.{IsGeosReach}
use Rattle.geos_files.specs.declared.entries.GeosEntry.{GeosEntry}
use Rattle.long_chains.specs.Chains.{data_of}
use Rattle.long_chains.specs.Sectors.{HasSector}
use Rattle.line_text.specs.petscii.FileNames.{file_name_of}
use Rattle.line_text.specs.declared.petscii.file_names.Ending.TheVariants.{Records}
use Rattle.damaged_files.specs.reached.Directories.{IsReadSoFar}
use Rattle.file_rescues.specs.rescue.Art.{is_art}
use Rattle.file_rescues.specs.rescue.Deleted.{deleted_slots}
use Rattle.file_rescues.specs.rescue.Errors.{errors_of}
use Rattle.file_rescues.specs.rescue.Folders.{AddsFiles, AddsPart, NewFile, new_file}
use Rattle.file_rescues.specs.rescue.Geos.{cvt_bytes}
use Rattle.file_rescues.specs.rescue.Index.{heading, row_text}
use Rattle.geos_files.specs.Long.{long_geos}
use Rattle.file_rescues.specs.rescue.LongCvt.{long_cvt}
use Rattle.file_rescues.specs.rescue.Named.{first_name}
use Rattle.damaged_files.specs.reached.Names.{name_of}
use Rattle.file_rescues.specs.rescue.Scanned.{with_scanned}
use Rattle.file_rescues.specs.rescue.Sharing.{first_past, is_taken, owned, past_of}
use Rattle.file_rescues.specs.declared.rescue.choices.Choice.{Choice}
use Rattle.file_rescues.specs.declared.rescue.rescuing.Rescued.{Rescued}
use Rattle.file_rescues.specs.declared.rescue.rows.Row.{Row}

-- tracks 1 to 35 have the sector
abbrev pub is_on_disk : ℕ → Bool
is_on_disk n = nat_lt n 683

-- the file has these sectors, and its blocks are those of them that tracks 1 to 35 have
pub record IsOfChain (f : Rescued) (chain : List ℕ) : Type 0 where
  pub sectors : f.sectors.items ≡ chain
  pub blocks : map index_of f.blocks.items ≡ filter is_on_disk chain
  pub fault : f.fault ≡ None

-- the file is what can be reached of it on tracks 1 to 35; or it is its long chain, if it has one
abbrev pub IsTaken : Rescued → (blocks : List Place) → (fault : Option Fault) → (last : ℕ) → (long : Option (List ℕ)) → Type 0
IsTaken f blocks fault last None =
    (f.blocks.items ≡ blocks) × (f.fault ≡ fault) × (f.last ≡ last) × (f.sectors.items ≡ [])
IsTaken f blocks fault last (Some chain) = IsOfChain f chain

pub record IsChainTaken (image : List ℕ) (img : Image) (f : Rescued) : Type 0 where
  pub blocks : List Place
  pub fault : Option Fault
  pub last : ℕ
  pub reached : IsReached img f.slot blocks fault last
  pub taken : IsTaken f blocks fault last (long_chain image f.slot fault)

-- what is taken of an entry's file: of one of GEOS its info block, and the blocks of its records, on tracks 1 to 35
abbrev pub IsReachedBy : Option GeosEntry → (image : List ℕ) → Image → Rescued → Type 0
IsReachedBy None image img f = IsChainTaken image img f × (f.pairs.items ≡ [])
IsReachedBy (Some entry) image img f =
    IsGeosReach img entry f.blocks.items f.pairs.items f.fault f.last × (f.sectors.items ≡ [])

-- All of a file of GEOS with a sector past track 35 is taken, or what is taken otherwise. It is written as CVT if it is one of GEOS
abbrev pub IsReachedIn : Option (List ℕ × List ℕ) → (image : List ℕ) → Image → Rescued → Type 0
IsReachedIn None image img f = IsReachedBy (geos_entry f.slot) image img f × (f.is_cvt ≡ is_some (geos_entry f.slot))
IsReachedIn (Some parts) image img f = IsOfChain f parts.0 × (f.pairs.items ≡ parts.1) × (f.is_cvt ≡ true)

-- the file has a sector past track 35, and all of it is taken
abbrev pub is_long : Rescued → Bool
is_long f = nat_lt 0 (length f.sectors.items)

-- this is taken of the entry's file, up to this fault
pub record IsRescued (image : List ℕ) (img : Image) (f : Rescued) : Type 0 where
  pub reached : IsReachedIn (long_geos image f.slot) image img f
  pub few : length f.sectors.items ≡ 0 → length f.blocks.items ≤ 683
  pub pairs : length f.pairs.items ≤ 254
  pub inside : AllByRecursion (HasSector image) f.sectors.items
  pub short : length f.sectors.items ≤ 802
  pub cvt : f.is_cvt ≡ true → length f.sectors.items ≤ 800

-- this is taken of these entries, in their order
pub record AreRescued (image : List ℕ) (img : Image) (slots : List Slot) (files : List Rescued) : Type 0 where
  pub entries : map (λ f. f.slot) files ≡ slots
  pub reached : AllByRecursion (IsRescued image img) files

-- a file and those after it, or only those, if a block of it is taken
abbrev pub with_untaken : (taken : Bool) → Rescued → List Rescued → List Rescued
with_untaken taken f files = if taken then files else f ∷ files

-- what was found of these deleted entries, in their order. Left out are those of which a block that can be reached is
-- also the map's, the directory's, or that of one of these files
abbrev pub AreUndeleted : (image : List ℕ) → Image → (directory : List Place) → (files : List Rescued) → List Slot → (found : List Rescued)
    → Type 0
AreUndeleted image img directory files [] found = found ≡ []
AreUndeleted image img directory files (s ∷ ss) found = (f : Rescued) × (rest : List Rescued) × (f.slot ≡ s) × IsRescued image img f
    × AreUndeleted image img directory files ss rest
    × (found ≡ with_untaken (is_taken directory files f) f rest)

-- the same of the deleted entries of a directory, if they are chosen: otherwise there are none
abbrev pub AreAdded : Bool → (image : List ℕ) → Image → (directory : List Place) → (files : List Rescued) → List Rescued → Type 0
AreAdded true image img directory files found = AreUndeleted image img directory files (deleted_slots img directory) found
AreAdded false image img directory files found = found ≡ []

-- this can be reached of the entries of a directory with these sectors, in their order, and then of the deleted ones that
-- are chosen
pub record AreChosen (choice : Choice) (image : List ℕ) (img : Image) (directory : List Place) (files : List Rescued) : Type 0 where
  pub used : List Rescued
  pub found : List Rescued
  pub all : files ≡ used ++ found
  pub entries : AreRescued image img (used_slots img directory) used
  pub deleted : AreAdded choice.deleted image img directory used found

-- the bytes of the file that can be reached on tracks 1 to 35; of one of GEOS those of its CVT
abbrev pub bytes_by : Option GeosEntry → Image → Rescued → List ℕ
bytes_by None img f = file_bytes img f.blocks.items f.last
bytes_by (Some entry) img f = cvt_bytes img entry f

-- those of a file with sectors past track 35; of one of GEOS those of its CVT
abbrev pub long_bytes : (image : List ℕ) → Rescued → List ℕ
long_bytes image f =
    if f.is_cvt then long_cvt image f.slot f.sectors.items f.pairs.items else data_of image f.sectors.items

-- the bytes that are taken of the file
abbrev pub bytes_in : (image : List ℕ) → Image → Rescued → List ℕ
bytes_in image img f = if is_long f then long_bytes image f else bytes_by (geos_entry f.slot) img f

-- how many blocks are
abbrev pub block_count : Rescued → ℕ
block_count f = if is_long f then length f.sectors.items else length f.blocks.items

-- the file with the lines of its records, if they have a length: 03-MEMBERS.csv. The side sectors aren't needed for them
abbrev pub line_files : ℕ → Rescued → List ℕ → Option ℕ → List NewFile
line_files n f bytes None = []
line_files n f bytes (Some L) =
    new_file (file_name_of n (name_of f.slot) Records) (records_text (records_of L bytes)) ∷ []

-- the files of entry n: one with its bytes, and one with its records
unfoldable pub own_files : (image : List ℕ) → Image → ℕ → Rescued → List NewFile
own_files image img n f =
    new_file (first_name n f.is_cvt f.slot) (bytes_in image img f)
    ∷ line_files n f (bytes_in image img f) (records_length f.slot)

-- all files that are made of entry n: none if it is directory art
unfoldable pub files_of : (image : List ℕ) → Image → ℕ → Rescued → List NewFile
files_of image img n f = if is_art f.slot then [] else own_files image img n f

-- the same of several entries, the first of them numbered n
unfoldable pub files_from : (image : List ℕ) → Image → ℕ → List Rescued → List NewFile
files_from image img n [] = []
files_from image img n (f ∷ fs) = files_of image img n f ++ files_from image img (n + 1) fs

-- what the index says of entry n, which is directory art: it has nothing
abbrev pub art_row : ℕ → Slot → Row
art_row n s =
    record { number = n; slot = s; is_cvt = false; blocks = 0; bytes = 0; fault = None; shared = None; hash = None }

-- what it says of a file, if these sectors are somebody's
abbrev pub file_row : (image : List ℕ) → Image → List Place → ℕ → Rescued → Row
file_row image img all n f = record {
  number = n;
  slot = f.slot;
  is_cvt = f.is_cvt;
  blocks = block_count f;
  bytes = length (bytes_in image img f);
  fault = f.fault;
  shared = first_shared all f.blocks.items;
  hash = Some (sha256 (bytes_in image img f));
}

-- what it says of entry n
abbrev pub row_of : (image : List ℕ) → Image → List Place → ℕ → Rescued → Row
row_of image img all n f = if is_art f.slot then art_row n f.slot else file_row image img all n f

-- the line of entry n, of an image with these bytes, if these sectors past track 35 are shared
abbrev pub line_of : (image : List ℕ) → Image → List Place → (past : List ℕ) → ℕ → Rescued → List ℕ
line_of image img all past n f = row_text (row_of image img all n f) (first_past past f) (errors_of image f)

-- the lines of several entries, the first of them numbered n
unfoldable pub rows_from : (image : List ℕ) → Image → List Place → (past : List ℕ) → ℕ → List Rescued → List ℕ
rows_from image img all past n [] = []
rows_from image img all past n (f ∷ fs) = line_of image img all past n f ++ rows_from image img all past (n + 1) fs

-- the index of these files of a disk whose directory has these sectors
abbrev pub index_of_files : (image : List ℕ) → Image → List Place → List Rescued → NewFile
index_of_files image img directory files =
    new_file (codes "index.csv") (heading ++ rows_from image img (owned directory files) (past_of 2 files) 1 files)

-- all files that are made, in their order: those of each entry, and the index
abbrev pub all_files : (image : List ℕ) → Image → List Place → List Rescued → List NewFile
all_files image img directory files = files_from image img 1 files ++ index_of_files image img directory files ∷ []

-- the fault of an entry that isn't closed; a deleted one has none
abbrev pub open_fault : Slot → Option Fault
open_fault s = if nat_eq (type_byte s) 0 then None else unclosed s

-- why a file isn't whole: its chain has a fault; or it has a block that others have too; or it isn't closed
abbrev pub fault_of : Row → Option Fault
fault_of r = option_or r.fault (option_or (shared_fault r.shared) (open_fault r.slot))

-- the first fault: this one, or that of the first of these files that isn't whole
unfoldable pub first_fault : (image : List ℕ) → Image → List Place → ℕ → Option Fault → List Rescued → Option Fault
first_fault image img all n found [] = found
first_fault image img all n found (f ∷ fs) = first_fault image img all (n + 1) (option_or found (fault_of (row_of image img all n f))) fs

-- the sectors that are read for entries, of a directory that has these: others that look like a directory's come after
-- them if they are chosen
abbrev pub sectors_of : Choice → Image → List Place → List Place
sectors_of choice img chain = if choice.scanned then with_scanned img chain 18 else chain

-- the directory of an image's disk as far as it can be read, and what is taken of each entry that is chosen
pub record IsRescue (choice : Choice) (image : List ℕ) (directory : List Place) (files : List Rescued)
    (fault : Option Fault) : Type 0
  where
    pub size : length (disk_of image) ≡ 174848
    pub chain : List Place
    pub entries : List Slot
    pub read : IsReadSoFar (sectors_in (disk_of image)) chain entries fault
    pub sectors : directory ≡ sectors_of choice (sectors_in (disk_of image)) chain
    pub rescued : AreChosen choice image (sectors_in (disk_of image)) directory files

-- All files of the disk in an image that are chosen were made in a folder, and nothing else; and the first fault was returned.
pub record IsExtracted {F : Type 0} (files : F → Option (List NewFile)) (choice : Choice) (image : List ℕ) (old new : F)
    (result : Option Fault) : Type 0
  where
    pub directory : List Place
    pub rescued : List Rescued
    pub found : Option Fault
    pub rescue : IsRescue choice image directory rescued found
    pub made : AddsFiles (files old) (files new) (all_files image (sectors_in (disk_of image)) directory rescued)
    pub told : result ≡ first_fault image (sectors_in (disk_of image)) (owned directory rescued) 1 found rescued

-- a beginning of them was made, and perhaps a part of the next one
pub record IsExtractedPart {F : Type 0} (files : F → Option (List NewFile)) (choice : Choice) (image : List ℕ) (old new : F)
    : Type 0
  where
    pub directory : List Place
    pub rescued : List Rescued
    pub found : Option Fault
    pub rescue : IsRescue choice image directory rescued found
    pub made : AddsPart (files old) (files new) (all_files image (sectors_in (disk_of image)) directory rescued)

-- the folder failed, or there was no memory
abbrev pub IsMakeFault : CommandFault → Type 0
IsMakeFault fault = (fault ≡ faults.File) ⊎ (fault ≡ faults.NoMemory)

-- why not all were made, and what was. Nothing is made of an image of a size that none has
abbrev pub IsExtractFault : {F : Type 0} → (F → Option (List NewFile)) → Choice → List ℕ → F → F → CommandFault → Type 0
IsExtractFault files choice image old new faults.ImageSize = (length (disk_of image) ≢ 174848) × (new ≡ old)
IsExtractFault files choice image old new faults.NoMemory =
    (length (disk_of image) ≡ 174848) × ((new ≡ old) ⊎ IsExtractedPart files choice image old new)
IsExtractFault files choice image old new faults.File =
    (length (disk_of image) ≡ 174848) × IsExtractedPart files choice image old new
IsExtractFault files choice image old new _ = ⊥
