-- What comes of making a deleted file of an image a file again: its entry has everything but its type (1541 User's Guide).
use Rattle.std.specs.Prelude.{◌≡◌, ◌⊎◌, ◌<◌, ◌+◌, ◌*◌, ◌∷◌, [], List, codes, false, length, ℕ}
use Rattle.command_faults.specs.declared.faults.CommandFault.TheVariants as faults
use Rattle.command_faults.specs.declared.faults.CommandFault.{CommandFault}
use Rattle.d64_image.specs.Images.{Image}
use Rattle.d64_image.specs.Memory.{sectors_in}
use Rattle.damaged_files.specs.declared.sides.planning.Loss.{Loss}
use Rattle.damaged_files.specs.declared.sides.planning.Loss.TheVariants.{Accepted, Refused}
use Rattle.disk_changes.specs.Judged.{IsSoundBut, IsSoundDisk, IsTaken, IsUnsoundOrShort}
use Rattle.disk_changes.specs.Repairs.{IsMended, IsMendRefusal, IsRepairRefusal, IsRepaired}
use Rattle.disk_changes.specs.declared.changes.Changed.{Changed}
use Rattle.disk_changes.specs.declared.entry_types.EntryType.{EntryType}
use Rattle.disk_changes.specs.declared.entry_types.EntryType.TheVariants.{Plain, Relative}
use Rattle.disk_layout.specs.Layout.{Layout}
use Rattle.disk_layout.specs.Rest.{slot_name}
use Rattle.disk_layout.specs.declared.slot.Slot.{Slot}
use Rattle.file_changes.specs.Entries.{IsFirstNamed, IsFreeName, entries_of}
use Rattle.file_changes.specs.Patches.{patched}
use Rattle.file_changes.specs.Puts.{type_number}
use Rattle.file_rescues.specs.rescue.Deleted.{deleted_slots}

-- s is the first deleted entry of that name, and no other entry has it
pub record IsUndeletable (img : Image) (l : Layout) (name : List ℕ) (s : Slot) : Type 0 where
  pub free : IsFreeName (entries_of l) (slot_name name)
  pub number : ℕ
  pub first : IsFirstNamed (deleted_slots img l.directory) (slot_name name) number s

-- why there is none: an entry has the name, or no deleted one
abbrev pub IsUnfound : Image → Layout → (name : List ℕ) → CommandFault → Type 0
IsUnfound img l name faults.FileExists = ¬ (IsFreeName (entries_of l) (slot_name name))
IsUnfound img l name faults.NoFile = IsFreeName (entries_of l) (slot_name name)
    × IsFreeName (deleted_slots img l.directory) (slot_name name)
IsUnfound img l name _ = ⊥

-- the type byte of a closed entry that isn't locked
abbrev pub entry_number : EntryType → ℕ
entry_number (Plain kind) = type_number kind
entry_number Relative = 132

-- the disk with that type in the entry: of a closed file that isn't locked
abbrev pub with_type : Image → Slot → EntryType → Image
with_type img s kind = patched img s.sector (32 * s.number + 2) (entry_number kind ∷ [])

-- the bytes are the image in which the first deleted entry of that name has that type
pub record IsRetyped (image name : List ℕ) (kind : EntryType) (bytes : List ℕ) : Type 0 where
  pub before : IsSoundDisk image
  pub entry : Slot
  pub of : IsUndeletable (sectors_in image) before.layout name entry
  pub is : sectors_in bytes ≡ with_type (sectors_in image) entry kind

-- the image was repaired, so that no sector became free; if a loss is accepted, a file that is cut short stays so
abbrev pub IsKeptRight : (bytes : List ℕ) → Loss → Changed → Type 0
IsKeptRight bytes Refused made = IsRepaired bytes false Refused made
IsKeptRight bytes Accepted made = IsMended bytes false made

-- why it wasn't
abbrev pub IsNotRight : (bytes : List ℕ) → Loss → CommandFault → Type 0
IsNotRight bytes Refused why = IsRepairRefusal bytes false Refused why
IsNotRight bytes Accepted why = IsMendRefusal bytes why

-- The disk that comes of it is that image's, repaired so that no sector becomes free; and what is printed.
pub record IsUndeleted (image name : List ℕ) (kind : EntryType) (cut : Loss) (made : Changed) : Type 0 where
  pub taken : IsTaken image cut
  pub bytes : List ℕ
  pub retyped : IsRetyped image name kind bytes
  pub second : Changed
  pub repaired : IsKeptRight bytes cut second
  pub disk : made.disk ≡ second.disk
  pub text : made.text.items ≡ codes "UNDELETED\n"

-- why the image has none to be undeleted
abbrev pub IsNoUndeletion : (image name : List ℕ) → Loss → CommandFault → Type 0
IsNoUndeletion image name cut faults.FileExists =
    IsSoundBut image (λ l. IsUnfound (sectors_in image) l name faults.FileExists)
IsNoUndeletion image name cut faults.NoFile =
    IsSoundBut image (λ l. (16 < length name) ⊎ IsUnfound (sectors_in image) l name faults.NoFile)
IsNoUndeletion image name cut why = IsUnsoundOrShort image cut why

-- why it isn't undeleted: there is none, or the disk with it can't be repaired
abbrev pub IsUndeleteRefusal : (image name : List ℕ) → EntryType → Loss → CommandFault → Type 0
IsUndeleteRefusal image name kind cut why = IsNoUndeletion image name cut why
    ⊎ ((bytes : List ℕ) × IsRetyped image name kind bytes × IsNotRight bytes cut why)
