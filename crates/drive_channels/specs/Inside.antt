-- A drive's fields, what they show, and what holds of them.
use Rattle.std.specs.Prelude.{ℕ, Bool, ◌≡◌, ◌≢◌, ◌≤◌, ◌+◌, false, true, List, None, Option, Some, IfSome}
use Rattle.d64_image.specs.History.{History}
use Rattle.d64_image.specs.Images.{Image}
use Rattle.disk_layout.specs.Clean.{IsClean}
use Rattle.disk_layout.specs.Layout.{File, Layout}
use Rattle.disk_layout.specs.Rest.{IsFirst}
use Rattle.rel_records.specs.File.{IsFileOf, entry_of, length_of}
use Rattle.drive_channels.specs.Files.{HasFile}
use Rattle.drive_channels.specs.Spelling.{IsName}
use Rattle.drive_channels.specs.State.{Channel, Seen, View}
use Rattle.drive_channels.specs.declared.open_file.NamedFile.{NamedFile}
use Rattle.drive_channels.specs.declared.open_file.OpenFile.{OpenFile}
use Rattle.drive_channels.specs.declared.open_file.Position.{Position}
use Rattle.drive_channels.specs.declared.open_files.OpenFiles.{OpenFiles}
use Rattle.drive_channels.specs.declared.status.Status.{Status}
use Rattle.drive_channels.specs.declared.drive.Drive.TheInside.{Inside}

-- the channel at this place of the file with this entry
abbrev pub channel_at : ℕ → Position → Channel
channel_at entry s = record {
  number = s.channel;
  entry = entry;
  record_number = s.record_number;
  position = s.position;
}

-- the channel at this place in the file with this entry, if there is one
abbrev pub channel_in : ℕ → Option Position → Option Channel
channel_in entry None = None
channel_in entry (Some s) = Some (channel_at entry s)

-- the open channel
abbrev pub channel_of : Option OpenFile → Option Channel
channel_of None = None
channel_of (Some o) = channel_in (entry_of o.found.file) o.spot

-- what a drive shows
abbrev pub seen_of : {D : Type 0} → Inside D → Seen D
seen_of d = record {
  disk = d.disk;
  channel = channel_of d.known.last;
  status = d.status;
  checked = d.known.checked;
  dead = d.dead;
}

-- the first byte of the first record
abbrev pub first_spot : ℕ → Position
first_spot channel = record { channel = channel; record_number = 1; position = 1 }

-- the first byte of the next record
abbrev pub next_spot : Position → Position
next_spot s = record { channel = s.channel; record_number = s.record_number + 1; position = 1 }

-- a drive that knows this and has this status, over this image
abbrev pub shown : Image → OpenFiles → Status → View
shown img known status = record {
  image = img;
  channel = channel_of known.last;
  status = status;
  checked = known.checked;
}

-- a drive with this file open at this place
abbrev pub at_spot : Image → NamedFile → Position → Status → Bool → View
at_spot img e s status checked = record {
  image = img;
  channel = channel_in (entry_of e.file) (Some s);
  status = status;
  checked = checked;
}

-- the remembered file is the first closed relative one of its name
pub record IsFound (img : Image) (e : NamedFile) : Type 0 where
  pub layout : Layout
  pub file : File
  pub of : IsFileOf img layout (entry_of e.file) file e.file
  pub named : IsName e.name.items
  pub first : IsFirst layout e.name.items (entry_of e.file) file

-- the place of a channel in its file
pub record IsSpot (e : NamedFile) (s : Position) : Type 0 where
  pub low : 2 ≤ s.channel
  pub high : s.channel ≤ 14
  pub record_from : 1 ≤ s.record_number
  pub up_to : s.record_number ≤ 182881
  pub from : 1 ≤ s.position
  pub within : s.position ≤ length_of e.file

-- what is remembered of a clean disk: the file opened last, with its channel if that is open, and the one before
pub record Remembers (img : Image) (last : Option OpenFile) (before : Option NamedFile) : Type 0 where
  pub clean : IsClean img
  pub last_found : IfSome last (λ o. IsFound img o.found)
  pub spot : IfSome last (λ o. IfSome o.spot (IsSpot o.found))
  pub before_found : IfSome before (IsFound img)
  pub apart : IfSome last (λ o. IfSome before (λ e. entry_of e.file ≢ entry_of o.found.file))

-- nothing is known before a check has passed; after that, what is remembered is right
pub record IsKnown (img : Image) (k : OpenFiles) : Type 0 where
  pub fresh : k.checked ≡ false → (k.last ≡ None) × (k.before ≡ None)
  pub remembered : k.checked ≡ true → Remembers img k.last k.before

-- what a drive that isn't dead knows is right
abbrev pub IsSteady : {D : Type 0} → History D → Inside D → Type 0
IsSteady S d = d.dead ≡ false → IsKnown (S.image d.disk) d.known

-- what a write to a remembered file leaves, if it is done: this file and all others are remembered as they are now
pub record KeepsFound (old new : Image) (e e' : NamedFile) : Type 0 where
  pub clean : IsClean new
  pub entry : entry_of e'.file ≡ entry_of e.file
  pub found : IsFound new e'
  pub others : (o : NamedFile) → entry_of o.file ≢ entry_of e.file → IsFound old o → IsFound new o

-- the file opened last, without its channel
abbrev pub found_in : Option OpenFile → Option NamedFile
found_in None = None
found_in (Some o) = Some o.found

-- after a look for the first closed relative file of a name: if there is one, it is the one opened last, with no
-- channel
pub record HasLooked (img : Image) (name : List ℕ) (k : OpenFiles) (there : Bool) : Type 0 where
  pub known : IsKnown img k
  pub checked : k.checked ≡ true
  pub closed : channel_of k.last ≡ None
  pub found : there ≡ true → (o : OpenFile) × (k.last ≡ Some o) × (o.found.name.items ≡ name)
  pub missing : there ≡ false → ¬ (HasFile img name)
