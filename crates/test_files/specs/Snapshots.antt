-- What a host says that lets its files be written. Our own.
use Rattle.std.specs.Prelude.{⊤, ℕ, Bool, List, None, Option, bytes_eq, codes, if◌then◌else◌, option_map, true}
use Rattle.image_file.specs.Lasting.{unknown_whole}
use Rattle.image_file.specs.declared.durability.WritesAt.{Ghosts}
use Rattle.image_file.specs.paths.Rights.{Rights}
use Rattle.image_file.specs.paths.Standing.{Holds, Missing, Stands, Unsaid}
use Rattle.test_files.specs.declared.snapshots.host.Snapshot.{Snapshot}
use Rattle.test_files.specs.declared.snapshots.open_file.SnapshotFile.{SnapshotFile}

-- the path of its image
abbrev pub image_path : List ℕ
image_path = codes "a.d64"

-- and that of its script
abbrev pub text_path : List ℕ
text_path = codes "s.txt"

-- a quiet host says that no log is there
abbrev pub log_stands : (quiet : Bool) → List ℕ → Stands
log_stands quiet path = if bytes_eq path (codes "a.d64-log") then (if quiet then Missing else Unsaid) else Unsaid

-- its image and its script have the bytes that they had when it was made
abbrev pub snapshot_stands : Snapshot → List ℕ → Stands
snapshot_stands host path =
    if bytes_eq path image_path then Holds host.image.now
    else (if bytes_eq path text_path then Holds host.text.now else log_stands host.quiet path)

-- all may be done with each file, and each path leads to itself
abbrev pub snapshot_rights : Rights Snapshot
snapshot_rights = record { may = λ _ how path. true; leads = λ _ from to. bytes_eq from to }

-- what reads of an open file give from here on, if that is said
abbrev pub left_of : SnapshotFile → Option (List ℕ)
left_of file = option_map (λ bytes. bytes.now) file.said

-- what such a file says of itself: nothing else
abbrev pub snapshot_file : Ghosts SnapshotFile
snapshot_file = record {
  held = λ _. None;
  lasting = λ _. None;
  whole = unknown_whole;
  IsShared = λ _. ⊤;
  IsOwned = λ _. ⊤;
  unread = left_of;
  has_failed = λ _. true;
}
