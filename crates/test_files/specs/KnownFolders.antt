-- What a snapshot says of the folder of its image, and of the log in it. Our own.
use Rattle.std.specs.Prelude.{◌≡◌, ◌≤◌, ⊤, ℕ, Bool, List, None, OnOk, Option, Result, Some, false, length, true}
use Rattle.d64_image.specs.Images.{Image}
use Rattle.d64_image.specs.Memory.{disk_image, sectors_in}
use Rattle.command_faults.specs.declared.faults.CommandFault.{CommandFault}
use Rattle.disk_changes.specs.declared.changes.Change.{Change}
use Rattle.disk_changes.specs.declared.changes.Changed.{Changed}
use Rattle.folder_changes.specs.FolderChanges.{HasNotBegun, IsLeft, IsMade, IsToldAs}
use Rattle.image_file.specs.paths.Rights.{Use, Write}
use Rattle.image_file.specs.paths.Traces.{Traces}
use Rattle.image_log.specs.Files.{FileHistory}
use Rattle.image_log.specs.Memory.{memory}
use Rattle.image_log.specs.declared.life.mem_folder.MemFolder.{MemFolder}
use Rattle.image_log.specs.declared.mem_log.MemLog.{MemLog}
use Rattle.image_log.specs.life.Bringing.{RestsAlone, RestsWith}
use Rattle.image_log.specs.life.FolderCalls.{began}
use Rattle.image_log.specs.life.Folders.{AllLeft, Folder, FolderHistory, LeavesFolders}
use Rattle.image_log.specs.life.HostLogs.{FolderHistories, HostFolders, LogBytes, LogHistories, asked_logs, untagged_folders}
use Rattle.image_log.specs.life.MemFolders.{folder_in_memory}
use Rattle.image_log.specs.life.Replacing.{KeepsOrGives}
use Rattle.image_log.specs.life.Untagged.{untagged_in}
use Rattle.test_files.specs.Snapshots.{image_path}
use Rattle.test_files.specs.declared.snapshots.host.Snapshot.{Snapshot}
use Rattle.test_files.specs.declared.snapshots.open_file.SnapshotFile.{SnapshotFile}

-- What a folder holds that may be there. Where there is none, each call fails, and no power loss comes.
abbrev pub held_in : Option MemFolder → Option Folder
held_in None = None
held_in (Some folder) = folder_in_memory.held folder

-- what a power loss may leave of it
abbrev pub left_in : Option MemFolder → Folder → Type 0
left_in None s = ⊥
left_in (Some folder) s = folder_in_memory.may_leave folder s

-- the moment
abbrev pub moment_in : Option MemFolder → ℕ
moment_in None = 0
moment_in (Some folder) = folder_in_memory.moment folder

-- what one might have left since
abbrev pub since_in : Option MemFolder → ℕ → Folder → Type 0
since_in None t s = ⊥
since_in (Some folder) t s = folder_in_memory.left_since folder t s

-- at which moment of its file the log was opened
abbrev pub lent_in : Option MemFolder → ℕ
lent_in None = 0
lent_in (Some folder) = folder_in_memory.lent folder

-- whether a call of it may have failed
abbrev pub failed_in : Option MemFolder → Bool
failed_in None = true
failed_in (Some folder) = folder_in_memory.has_failed folder

-- since now there is no other moment
pub only_in : (folder : Option MemFolder) (s : Folder) → since_in folder (moment_in folder) s → left_in folder s
only_in None s left = left
only_in (Some folder) s left = folder_in_memory.only_now folder s left

pub now_in : (folder : Option MemFolder) (t : ℕ) (s : Folder) → t ≤ moment_in folder → left_in folder s → since_in folder t s
now_in None t s le left = left
now_in (Some folder) t s le left = folder_in_memory.now folder t s le left

-- the history of what has such a folder
abbrev pub folder_in : {E : Type 0} → (E → Option MemFolder) → FolderHistory E
folder_in of = record {
  held = λ e. held_in (of e);
  may_leave = λ e s. left_in (of e) s;
  moment = λ e. moment_in (of e);
  left_since = λ e t s. since_in (of e) t s;
  lent = λ e. lent_in (of e);
  has_failed = λ e. failed_in (of e);
  only_now = λ e s left. only_in (of e) s left;
  now = λ e t s le left. now_in (of e) t s le left;
}

-- the history of what has a file in memory
abbrev pub log_in : {E : Type 0} → (E → MemLog) → FileHistory E
log_in of = record {
  held = λ e. memory.held (of e);
  may_leave = λ e c. memory.may_leave (of e) c;
  moment = λ e. memory.moment (of e);
  left_since = λ e t c. memory.left_since (of e) t c;
  has_failed = λ e. memory.has_failed (of e);
  only_now = λ e c left. memory.only_now (of e) c left;
}

-- the folders of a snapshot's images, and without the tag
abbrev pub tagged_folders : HostFolders Snapshot SnapshotFile
tagged_folders g r s = folder_in (λ d. d.image.folder)

abbrev pub snapshot_folders : FolderHistories Snapshot SnapshotFile
snapshot_folders = untagged_folders tagged_folders

-- the files of the logs in them, and the logs
abbrev pub log_files : FileHistory SnapshotFile
log_files = log_in (λ file. file.log)

abbrev pub snapshot_logs : LogHistories Snapshot SnapshotFile
snapshot_logs = asked_logs log_files

-- what reads of such a log give
abbrev pub snapshot_log_bytes : LogBytes Snapshot SnapshotFile
snapshot_log_bytes l = Some l.log.file.read.items

-- this folder has the image that the snapshot had when it was made, no log, and nothing else after a power loss
abbrev pub IsFresh : Snapshot → Option MemFolder → Type 0
IsFresh host found = (folder : MemFolder) × (found ≡ Some folder)
    × (folder_in_memory.held folder ≡ Some (began (sectors_in host.image.now) None))
    × AllLeft folder_in_memory folder (λ s. s ≡ began (sectors_in host.image.now) None)

-- so has that of the file at a path, if it is `a.d64`, and as long as an image
abbrev pub IsFreshAt : Snapshot → List ℕ → Option MemFolder → Type 0
IsFreshAt host path found = path ≡ image_path → length host.image.now ≡ 174848 → IsFresh host found

-- a file was opened so at a path
abbrev pub IsOpenedBy : Snapshot → Use → List ℕ → SnapshotFile → Type 0
IsOpenedBy host Write path file = IsFreshAt host path file.folder
IsOpenedBy host how path file = ⊤

-- what a snapshot says of calls that were made
abbrev pub snapshot_traces : Traces Snapshot SnapshotFile
snapshot_traces = record {
  seen = λ _ _ _. ⊤;
  opened = IsOpenedBy;
  moved = λ _ _ _. ⊤;
  renamed = λ _ _ _. ⊤;
  removed = λ _ _. ⊤;
  made = λ _ _. ⊤;
  synced = λ _ _. ⊤;
}

-- a folder in memory, without the tag of IMAGE
abbrev pub untagged_memory : FolderHistory MemFolder
untagged_memory = untagged_in (λ folder. folder) (λ folder. false) folder_in_memory

-- There are two such folders, the second of which comes of the first: each has an image at rest, with no log, and a power loss on
-- the way left one of the two. A snapshot alone doesn't say that a job had them.
abbrev pub HasTurned : (before after : Image) → Type 0
HasTurned before after = (old : MemFolder) × (new : MemFolder) × RestsAlone untagged_memory old before
    × RestsAlone untagged_memory new after × LeavesFolders untagged_memory old new (KeepsOrGives None before after)

-- a change was made of the image in such a folder, or not
abbrev pub IsChangedIn : {D W : Type 0} → FolderHistory D → (IsAt : D → Type 0) → Change → (image : List ℕ)
    → (W → Option (List ℕ)) → W → W → Result ℕ CommandFault → Type 0
IsChangedIn {D} h IsAt what image contents before after ended = (old : D) × (new : D) × IsAt old
    × IsToldAs contents (IsMade h what image old new) (IsLeft h what image old new) (HasNotBegun h image old new) before after ended

-- an image was put in the place of all that such a folder had, or not
abbrev pub IsReplacedIn : {D : Type 0} → FolderHistory D → (IsAt : D → Type 0) → (image : List ℕ) → Result Unit CommandFault
    → Type 0
IsReplacedIn {D} h IsAt image ended = (old : D) × (new : D) × IsAt old
    × ((log : Option (List ℕ)) (before : Image) → RestsWith h old log before
    → LeavesFolders h old new (KeepsOrGives log before (sectors_in image)))
    × OnOk ended ((log : Option (List ℕ)) (before : Image) → RestsWith h old log before → RestsAlone h new (sectors_in image))

-- what a snapshot says of an image that was changed
abbrev pub snapshot_changed : Snapshot → (path image : List ℕ) → Changed → Type 0
snapshot_changed host path image made = HasTurned (sectors_in image) (disk_image made.disk)

-- and of one that was put in the place of its own
abbrev pub snapshot_replaced : Snapshot → (path image : List ℕ) → Type 0
snapshot_replaced host path image = HasTurned (sectors_in host.image.now) (sectors_in image)
