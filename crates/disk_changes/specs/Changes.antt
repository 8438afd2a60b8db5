-- What comes of a change to an image, or why it isn't made. Our own.
use Rattle.std.specs.Prelude.{◌≡◌, ◌≤◌, ◌⊎◌, ⊤, Bool, List, false, length, true, ℕ}
use Rattle.command_faults.specs.Faults.{IsLoadFault, IsSoundFault}
use Rattle.disk_changes.specs.Art.{HasNoArt, IsAside, IsBesideArt}
use Rattle.disk_changes.specs.Copies.{IsCopied, IsCopyRefusal}
use Rattle.disk_changes.specs.Deletes.{IsDeleteRefusal, IsDeleted}
use Rattle.disk_changes.specs.GeosPuts.{IsGeosPut, IsGeosPutRefusal}
use Rattle.disk_changes.specs.Locks.{IsLockRefusal, IsLockSet}
use Rattle.disk_changes.specs.Makes.{IsMade, IsMakeRefusal}
use Rattle.disk_changes.specs.Puts.{IsPut, IsPutRefusal}
use Rattle.disk_changes.specs.Rebuilds.{IsRebuildRefusal, IsRebuilt}
use Rattle.disk_changes.specs.Renames.{IsRenameRefusal, IsRenamed}
use Rattle.disk_changes.specs.Repairs.{IsRepairRefusal, IsRepaired, frees}
use Rattle.disk_changes.specs.Sorts.{IsSortRefusal, IsSorted}
use Rattle.disk_changes.specs.Stores.{IsNotStoredAs, IsStoredAs}
use Rattle.disk_changes.specs.Titles.{IsTitled}
use Rattle.disk_changes.specs.Undeletes.{IsUndeleteRefusal, IsUndeleted}
use Rattle.disk_changes.specs.declared.changes.Change.{Change}
use Rattle.disk_changes.specs.declared.changes.ChangeKind.{ChangeKind}
use Rattle.disk_changes.specs.declared.changes.ChangeKind.TheVariants as kinds
use Rattle.disk_changes.specs.declared.changes.Changed.{Changed}
use Rattle.command_faults.specs.declared.faults.CommandFault.{CommandFault}
use Rattle.command_faults.specs.declared.faults.CommandFault.TheVariants as faults
use Rattle.damaged_files.specs.declared.sides.planning.Loss.{Loss}
use Rattle.file_changes.specs.Names.{name_bytes}
use Rattle.rel_records.specs.File.{IsLength}

-- the name that a file gets fits an entry, and so does the length of its records
abbrev pub IsFit : ChangeKind → Type 0
IsFit (kinds.Make L name) = (length (name_bytes name) ≤ 16) × IsLength L
IsFit (kinds.Rename from to) = length (name_bytes to) ≤ 16
IsFit (kinds.Title id name) = length (name_bytes name) ≤ 16
IsFit (kinds.Put file kind name) = length (name_bytes name) ≤ 16
IsFit (kinds.PutGeos file name) = length (name_bytes name) ≤ 16
IsFit (kinds.CopyFile from name to) = length (name_bytes to) ≤ 16
IsFit _ = ⊤

-- the change was made so of an image as it is
abbrev pub IsDoneBy : ChangeKind → Loss → (source image : List ℕ) → Changed → Type 0
IsDoneBy (kinds.Repair unowned) loss source image made = IsRepaired image (frees unowned) loss made
IsDoneBy (kinds.RepairSides unowned) loss source image made = IsRebuilt image (frees unowned) loss made
IsDoneBy (kinds.Make L name) loss source image made = IsMade image (name_bytes name) L loss made
IsDoneBy (kinds.Rename from to) loss source image made = IsRenamed image (name_bytes from) (name_bytes to) made
IsDoneBy (kinds.Title id name) loss source image made = IsTitled image (name_bytes name) id made
IsDoneBy (kinds.Lock lock name) loss source image made = IsLockSet image (name_bytes name) lock made
IsDoneBy (kinds.Delete name) loss source image made = IsDeleted image (name_bytes name) loss made
IsDoneBy (kinds.Undelete kind name) loss source image made = IsUndeleted image (name_bytes name) kind loss made
IsDoneBy kinds.Sort loss source image made = IsSorted image made
IsDoneBy (kinds.Put file kind name) loss source image made = IsPut image (name_bytes name) kind source loss made
IsDoneBy (kinds.PutGeos file name) loss source image made = IsGeosPut image (name_bytes name) source loss made
IsDoneBy (kinds.CopyFile from name to) loss source image made = IsCopied source (name_bytes name) (name_bytes to) image loss made
IsDoneBy (kinds.Store records columns name) loss source image made = IsStoredAs columns image (name_bytes name) source loss made

-- it wasn't, for this reason
abbrev pub IsBarredBy : ChangeKind → Loss → (source image : List ℕ) → CommandFault → Type 0
IsBarredBy (kinds.Repair unowned) loss source image why = IsRepairRefusal image (frees unowned) loss why
IsBarredBy (kinds.RepairSides unowned) loss source image why = IsRebuildRefusal image (frees unowned) loss why
IsBarredBy (kinds.Make L name) loss source image why = IsMakeRefusal image (name_bytes name) loss why
IsBarredBy (kinds.Rename from to) loss source image why = IsRenameRefusal image (name_bytes from) (name_bytes to) why
IsBarredBy (kinds.Title id name) loss source image why = IsSoundFault image why
IsBarredBy (kinds.Lock lock name) loss source image why = IsLockRefusal image (name_bytes name) why
IsBarredBy (kinds.Delete name) loss source image why = IsDeleteRefusal image (name_bytes name) loss why
IsBarredBy (kinds.Undelete kind name) loss source image why = IsUndeleteRefusal image (name_bytes name) kind loss why
IsBarredBy kinds.Sort loss source image why = IsSortRefusal image why
IsBarredBy (kinds.Put file kind name) loss source image why = IsPutRefusal image (name_bytes name) kind source loss why
IsBarredBy (kinds.PutGeos file name) loss source image why = IsGeosPutRefusal image (name_bytes name) source loss why
IsBarredBy (kinds.CopyFile from name to) loss source image why = IsCopyRefusal source (name_bytes name) (name_bytes to) image loss why
IsBarredBy (kinds.Store records columns name) loss source image why = IsNotStoredAs columns image (name_bytes name) source loss why

-- the change was made of an image as it is
abbrev pub IsDone : Change → (image : List ℕ) → Changed → Type 0
IsDone what image made = IsDoneBy what.kind.now what.loss what.source.now image made

-- it wasn't, for this reason
abbrev pub IsBarred : Change → (image : List ℕ) → CommandFault → Type 0
IsBarred what image why = IsBarredBy what.kind.now what.loss what.source.now image why

-- it neither moves directory art nor says of a disk with art that it is in order
abbrev pub leaves_art : ChangeKind → Bool
leaves_art kinds.Sort = false
leaves_art (kinds.Repair unowned) = false
leaves_art (kinds.RepairSides unowned) = false
leaves_art _ = true

-- the image has the size of one, and the change was made so, of the image as it is or with its art put aside
abbrev pub IsChangedBy : ChangeKind → Loss → (source image : List ℕ) → Changed → Type 0
IsChangedBy kind loss source image made = (length image ≡ 174848) × (IsDoneBy kind loss source image made
    ⊎ ((leaves_art kind ≡ true) × IsBesideArt (IsDoneBy kind loss source) image made))

-- the layout has a fault
abbrev pub is_layout : CommandFault → Bool
is_layout (faults.Layout fault) = true
is_layout _ = false

-- it is no help to put art aside: the layout has no fault, the change doesn't leave art, or there is none
abbrev pub IsFinal : ChangeKind → (image : List ℕ) → CommandFault → Type 0
IsFinal kind image why = (is_layout why ≡ false) ⊎ ((leaves_art kind ≡ false) ⊎ HasNoArt image)

-- it wasn't, for this reason: of the image as it is, or with its art put aside, for which there may have been no memory
abbrev pub IsUnchangedBy : ChangeKind → Loss → (source image : List ℕ) → CommandFault → Type 0
IsUnchangedBy kind loss source image why = (IsBarredBy kind loss source image why × IsFinal kind image why) ⊎ (IsLoadFault image why
    ⊎ ((leaves_art kind ≡ true) × (bytes : List ℕ) × IsAside image bytes × IsBarredBy kind loss source bytes why))

-- the same of a change with all that it takes
abbrev pub IsChanged : Change → (image : List ℕ) → Changed → Type 0
IsChanged what image made = IsChangedBy what.kind.now what.loss what.source.now image made

abbrev pub IsRefused : Change → (image : List ℕ) → CommandFault → Type 0
IsRefused what image why = IsUnchangedBy what.kind.now what.loss what.source.now image why
