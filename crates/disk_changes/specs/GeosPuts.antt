-- What comes of putting the file of GEOS that a CVT holds into an image. The content of the CVT is put there as one chain, which then
-- becomes the info block, the record block and the records; what came of it is judged. Our own.
use Rattle.std.specs.Prelude.{◌≡◌, ◌⊎◌, ◌++◌, List, None, Some, codes, drop, false, if◌then◌else◌, slice_index, slice_range, ℕ}
use Rattle.command_faults.specs.Faults.{IsSoundFault}
use Rattle.command_faults.specs.declared.faults.CommandFault.{CommandFault}
use Rattle.command_faults.specs.declared.faults.CommandFault.TheVariants as faults
use Rattle.d64_image.specs.Images.{Image, sector}
use Rattle.d64_image.specs.Memory.{disk_image, sectors_in}
use Rattle.d64_image.specs.declared.place.Place.{Place}
use Rattle.damaged_files.specs.declared.sides.planning.Loss.{Loss}
use Rattle.damaged_files.specs.reached.Reached.{IsReached}
use Rattle.disk_changes.specs.Judged.{IsSoundDisk}
use Rattle.disk_changes.specs.Puts.{IsPut, IsPutRefusal}
use Rattle.disk_changes.specs.Rewrites.{IsPlainNamed, IsUnlaid, now_at}
use Rattle.disk_changes.specs.Sorts.{with_entry}
use Rattle.disk_changes.specs.declared.changes.Changed.{Changed}
use Rattle.disk_layout.specs.Directory.{slot_in, type_byte}
use Rattle.disk_layout.specs.Layout.{Layout, is_rel}
use Rattle.disk_layout.specs.Rest.{slot_name}
use Rattle.disk_layout.specs.declared.slot.Slot.{Slot}
use Rattle.file_changes.specs.Entries.{IsFirstNamed, entries_of}
use Rattle.file_changes.specs.PutWrites.{SameBeside}
use Rattle.file_changes.specs.declared.file_type.FileType.TheVariants.{Usr}
use Rattle.file_rescues.specs.Bytes.{file_bytes}
use Rattle.disk_changes.specs.Cvts.{content_of}
use Rattle.geos_files.specs.Entries.{geos_entry}
use Rattle.geos_files.specs.Reached.{IsGeosReach}
use Rattle.geos_files.specs.declared.entries.GeosEntry.{GeosEntry}

-- how many blocks come before those of the data: the info block, and the record block if there is one
abbrev pub leading : GeosEntry → ℕ
leading entry = if entry.has_records then 2 else 1

-- from the info block on, the CVT of the entry's file is this content, and no fault is in the way
pub record HasContent (img : Image) (s : Slot) (content : List ℕ) : Type 0 where
  pub entry : GeosEntry
  pub of : geos_entry s ≡ Some entry
  pub blocks : List Place
  pub pairs : List ℕ
  pub last : ℕ
  pub reach : IsGeosReach img entry blocks pairs None last
  pub is : content ≡ slice_range (sector img entry.info) 2 256 ++ (pairs ++ file_bytes img (drop (leading entry) blocks) last)

-- the entry isn't that of a relative file; it has this name, and the type, the structure, the type of GEOS and the date of the CVT
pub record HasEntryOf (s : Slot) (name cvt : List ℕ) : Type 0 where
  pub plain : is_rel s ≡ false
  pub named : slice_range s.bytes 5 21 ≡ slot_name name
  pub kind : type_byte s ≡ slice_index cvt 0
  pub geos : slice_range s.bytes 23 30 ≡ slice_range cvt 21 28

-- From b to c only the blocks of the first file of that name have changed, and the entry of this file, which isn't relative.
pub record IsLaid (b : Image) (l : Layout) (name : List ℕ) (s : Slot) (c : Image) : Type 0 where
  pub named : IsPlainNamed l name s
  pub blocks : List Place
  pub last : ℕ
  pub reached : IsReached b s blocks None last
  pub middle : Image
  pub beside : SameBeside b blocks middle
  pub entry : Slot
  pub is : c ≡ with_entry middle s entry

-- A file of GEOS was made of the first file of that name, which has the content of a CVT in one chain. The disk is sound, and the
-- file's CVT has that content, and what the CVT's entry says but for the name, the places and the block count.
pub record IsGeosMade (b : Image) (l : Layout) (name cvt content : List ℕ) (c : Image) : Type 0 where
  pub bytes : List ℕ
  pub slot : Slot
  pub laid : IsLaid b l name slot (sectors_in bytes)
  pub sound : IsSoundDisk bytes
  pub entry : HasEntryOf (now_at (sectors_in bytes) slot) name cvt
  pub file : HasContent (sectors_in bytes) (now_at (sectors_in bytes) slot) content
  pub after : c ≡ sectors_in bytes

-- the content of the CVT was put there as a file of that name, and a file of GEOS was made of that
pub record IsGeosPut (image name cvt : List ℕ) (cut : Loss) (made : Changed) : Type 0 where
  pub content : List ℕ
  pub is_cvt : content_of cvt ≡ Some content
  pub first : Changed
  pub put : IsPut image name Usr content cut first
  pub laid : IsGeosMade (disk_image first.disk) put.after.layout name cvt content (disk_image made.disk)
  pub text : made.text.items ≡ codes "PUT\n"

-- why a file of GEOS isn't put there: the source isn't a whole CVT; or its content can't be put there; or what came of it isn't taken
abbrev pub IsGeosPutRefusal : (image name cvt : List ℕ) → Loss → CommandFault → Type 0
IsGeosPutRefusal image name cvt cut why = ((why ≡ faults.NoFile) × (content_of cvt ≡ None))
    ⊎ ((content : List ℕ) × (content_of cvt ≡ Some content) × (IsPutRefusal image name Usr content cut why
    ⊎ ((first : Changed) × IsPut image name Usr content cut first × IsUnlaid why)))
