-- What comes of copying a file of another image into an image (1541 User's Guide, directory format). Our own.
use Rattle.std.specs.Prelude.{◌≡◌, ◌≢◌, ◌⊎◌, ◌%◌, [], IsTrue, List, None, Option, Some, codes, if◌then◌else◌, length, nat_eq, slice_index, ℕ}
use Rattle.command_faults.specs.declared.faults.CommandFault.{CommandFault}
use Rattle.command_faults.specs.declared.faults.CommandFault.TheVariants as faults
use Rattle.d64_image.specs.Memory.{disk_image, sectors_in}
use Rattle.d64_image.specs.declared.mem_disk.MemDisk.{MemDisk}
use Rattle.damaged_files.specs.cut.Told.{IsToldOfImage}
use Rattle.damaged_files.specs.declared.sides.planning.Loss.{Loss}
use Rattle.disk_changes.specs.Empties.{IsEmptied}
use Rattle.disk_changes.specs.Locks.{IsLockRefusal, IsLockSet}
use Rattle.disk_changes.specs.Makes.{IsMade, IsMakeRefusal}
use Rattle.disk_changes.specs.Puts.{IsPut, IsPutRefusal}
use Rattle.disk_changes.specs.Rewrites.{IsUnlaid}
use Rattle.disk_changes.specs.Stores.{IsStored, IsStoreRefusal}
use Rattle.disk_changes.specs.declared.changes.Changed.{Changed}
use Rattle.disk_changes.specs.declared.changes.Lock.TheVariants.{Set}
use Rattle.disk_layout.specs.Directory.{type_byte}
use Rattle.disk_layout.specs.Layout.{File, is_rel, record_length}
use Rattle.disk_layout.specs.Records.{records}
use Rattle.disk_layout.specs.declared.slot.Slot.{Slot}
use Rattle.file_changes.specs.Deletes.{IsLocked}
use Rattle.file_changes.specs.declared.file_type.FileType.{FileType}
use Rattle.file_changes.specs.declared.file_type.FileType.TheVariants.{Prg, Seq, Usr}
use Rattle.file_rescues.specs.Records.{HasNoReached, HasNoRecordFile, IsReachedFile, IsRecordFile, records_text}
use Rattle.file_rescues.specs.Whole.{IsNoWholeFile, IsWholeFile}
use Rattle.rel_records.specs.File.{IsLength}

-- the type of a file that isn't relative, by the low half of its type byte
abbrev pub plain_type : Slot → Option FileType
plain_type s =
    if nat_eq (type_byte s % 16) 1 then Some Seq else
    (if nat_eq (type_byte s % 16) 2 then Some Prg else
    (if nat_eq (type_byte s % 16) 3 then Some Usr else None))

-- the disk is that of the bytes with the first file of that name locked
abbrev pub IsLockedOn : (bytes name : List ℕ) → MemDisk → Type 0
IsLockedOn bytes name disk = (second : Changed) × IsLockSet bytes name Set second × (disk ≡ second.disk)

-- the disk is that of `first`; but if the entry is locked, its file of that name is, too
abbrev pub HasLockOf : Slot → (name : List ℕ) → Changed → MemDisk → Type 0
HasLockOf entry name first disk = (¬ (IsLocked entry) × (disk ≡ first.disk))
    ⊎ (IsLocked entry × (bytes : List ℕ) × (sectors_in bytes ≡ disk_image first.disk) × IsLockedOn bytes name disk)

-- A file with these bytes and the entry's type is put on the disk that comes of it, and it is locked if the entry is; and what
-- is printed.
pub record IsCopyOf (entry : Slot) (content to image : List ℕ) (cut : Loss) (made : Changed) : Type 0 where
  pub kind : FileType
  pub kind_is : plain_type entry ≡ Some kind
  pub first : Changed
  pub put : IsPut image to kind content cut first
  pub lock : HasLockOf entry to first made.disk
  pub text : made.text.items ≡ codes "COPIED\n"

-- the entry names no first block
abbrev pub NamesNoBlock : Slot → Type 0
NamesNoBlock s = slice_index s.bytes 3 ≡ 0

-- A file with one block and the entry's type is put on the disk that comes of it, and gives this block back; and it is locked if the
-- entry is; and what is printed.
pub record IsEmptyCopyOf (entry : Slot) (to image : List ℕ) (cut : Loss) (made : Changed) : Type 0 where
  pub kind : FileType
  pub kind_is : plain_type entry ≡ Some kind
  pub first : Changed
  pub put : IsPut image to kind [] cut first
  pub second : Changed
  pub empty : IsEmptied (disk_image first.disk) put.after.layout to (disk_image second.disk)
  pub lock : HasLockOf entry to second made.disk
  pub text : made.text.items ≡ codes "COPIED\n"

-- the file with this entry, which isn't relative, is copied with its bytes, or without a block if it has none
abbrev pub IsPlainCopyOf : Slot → (content to image : List ℕ) → Loss → Changed → Type 0
IsPlainCopyOf entry content to image cut made = (NamesNoBlock entry × IsEmptyCopyOf entry to image cut made)
    ⊎ (¬ (NamesNoBlock entry) × IsCopyOf entry content to image cut made)

-- the text is the lines of the records of the first closed relative file of that name, and that isn't cut short
abbrev pub IsTextOf : (source name text : List ℕ) → Type 0
IsTextOf source name text = (file : File) × (is : IsRecordFile source name file) × IsToldOfImage source (Some is.number) None
    × (text ≡ records_text (records (sectors_in source) file))

-- A relative file with the entry's record length is made on the disk that comes of it, these lines are stored in it, and it is
-- locked if the entry is; and what is printed.
pub record IsRecordCopyOf (entry : Slot) (given to image : List ℕ) (cut : Loss) (made : Changed) : Type 0 where
  pub length_is : IsLength (record_length entry)
  pub first : Changed
  pub new : IsMade image to (record_length entry) cut first
  pub bytes : List ℕ
  pub held : sectors_in bytes ≡ disk_image first.disk
  pub second : Changed
  pub filled : IsStored bytes to given cut second
  pub lock : HasLockOf entry to second made.disk
  pub text : made.text.items ≡ codes "COPIED\n"

-- the file with this entry is relative, and its records are copied so; or its bytes are; or it has no block, and its copy has none
abbrev pub IsCopyAs : Slot → (content source name to image : List ℕ) → Loss → Changed → Type 0
IsCopyAs entry content source name to image cut made = (¬ (IsTrue (is_rel entry)) × IsPlainCopyOf entry content to image cut made)
    ⊎ (IsTrue (is_rel entry) × (given : List ℕ) × IsTextOf source name given × IsRecordCopyOf entry given to image cut made)

-- The first closed file of that name of the other image is copied so.
pub record IsCopied (source name to image : List ℕ) (cut : Loss) (made : Changed) : Type 0 where
  pub entry : Slot
  pub content : List ℕ
  pub file : IsWholeFile source name entry content
  pub copy : IsCopyAs entry content source name to image cut made

-- the file that was put there isn't locked, for this reason
abbrev pub IsUnlockedFor : Slot → (to : List ℕ) → Changed → CommandFault → Type 0
IsUnlockedFor entry to first why =
    IsLocked entry × (bytes : List ℕ) × (sectors_in bytes ≡ disk_image first.disk) × IsLockRefusal bytes to why

-- why the file with this entry isn't copied by its bytes: it has no such type; or it isn't put on the disk, or not locked there
abbrev pub IsNoCopyOf : Slot → (content to image : List ℕ) → Loss → CommandFault → Type 0
IsNoCopyOf entry content to image cut why = ((why ≡ faults.NoFile) × (plain_type entry ≡ None))
    ⊎ ((kind : FileType) × (plain_type entry ≡ Some kind) × (IsPutRefusal image to kind content cut why
    ⊎ ((first : Changed) × IsPut image to kind content cut first × IsUnlockedFor entry to first why)))

-- why a file without a block, with this entry, isn't copied: it has no such type; or it isn't put on the disk, or doesn't give its block
-- back, or isn't locked there
abbrev pub IsNoEmptyCopyOf : Slot → (to image : List ℕ) → Loss → CommandFault → Type 0
IsNoEmptyCopyOf entry to image cut why = ((why ≡ faults.NoFile) × (plain_type entry ≡ None))
    ⊎ ((kind : FileType) × (plain_type entry ≡ Some kind) × (IsPutRefusal image to kind [] cut why
    ⊎ ((first : Changed) × (put : IsPut image to kind [] cut first) × (IsUnlaid why
    ⊎ ((second : Changed) × IsEmptied (disk_image first.disk) put.after.layout to (disk_image second.disk)
    × IsUnlockedFor entry to second why)))))

-- why a file that isn't relative isn't copied
abbrev pub IsNoPlainCopyOf : Slot → (content to image : List ℕ) → Loss → CommandFault → Type 0
IsNoPlainCopyOf entry content to image cut why = (NamesNoBlock entry × IsNoEmptyCopyOf entry to image cut why)
    ⊎ (¬ (NamesNoBlock entry) × IsNoCopyOf entry content to image cut why)

-- why the records of a file aren't all there: as they aren't all printed
abbrev pub IsNoTextOf : (source name : List ℕ) → CommandFault → Type 0
IsNoTextOf source name faults.ImageSize = length source ≢ 174848
IsNoTextOf source name faults.NoMemory = length source ≡ 174848
IsNoTextOf source name (faults.Layout fault) =
    HasNoReached (sectors_in source) name fault ⊎ IsReachedFile (sectors_in source) name fault
IsNoTextOf source name faults.NoFile = HasNoRecordFile source name
IsNoTextOf source name (faults.Short p) =
    (file : File) × (is : IsRecordFile source name file) × IsToldOfImage source (Some is.number) (Some p)
IsNoTextOf source name _ = ⊥

-- why these records aren't copied: the entry's record length is none; or the file isn't made, or not filled, or not locked
abbrev pub IsNoRecordCopyOf : Slot → (given to image : List ℕ) → Loss → CommandFault → Type 0
IsNoRecordCopyOf entry given to image cut why = ((why ≡ faults.NoFile) × ¬ (IsLength (record_length entry)))
    ⊎ (IsMakeRefusal image to cut why
    ⊎ ((first : Changed) × IsMade image to (record_length entry) cut first × (bytes : List ℕ)
    × (sectors_in bytes ≡ disk_image first.disk) × (IsStoreRefusal bytes to given cut why
    ⊎ ((second : Changed) × IsStored bytes to given cut second × IsUnlockedFor entry to second why))))

-- why the file with this entry isn't copied
abbrev pub IsNoCopyAs : Slot → (content source name to image : List ℕ) → Loss → CommandFault → Type 0
IsNoCopyAs entry content source name to image cut why = (¬ (IsTrue (is_rel entry)) × IsNoPlainCopyOf entry content to image cut why)
    ⊎ (IsTrue (is_rel entry) × (IsNoTextOf source name why
    ⊎ ((given : List ℕ) × IsTextOf source name given × IsNoRecordCopyOf entry given to image cut why)))

-- why no file is copied: the other image has none of that name that is whole, or it isn't copied
abbrev pub IsCopyRefusal : (source name to image : List ℕ) → Loss → CommandFault → Type 0
IsCopyRefusal source name to image cut faults.NoMemory = (length source ≡ 174848) ⊎ (length image ≡ 174848)
IsCopyRefusal source name to image cut why = IsNoWholeFile source name why
    ⊎ ((entry : Slot) × (content : List ℕ) × IsWholeFile source name entry content
    × IsNoCopyAs entry content source name to image cut why)
