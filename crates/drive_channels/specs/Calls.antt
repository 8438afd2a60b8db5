-- What the calls inside a drive promise, at Ok and at an error. All of it is our own.
use Rattle.std.specs.Prelude.{ℕ, ◌≡◌, ◌≢◌, ◌≤◌, ◌+◌, Bool, false, true, IfOk, IsSome, List, None, OnOk, Result, Some}
use Rattle.d64_image.specs.History.{Changes, History, OnlyReads, TellsFailure, WritesNothing}
use Rattle.d64_image.specs.Images.{Image}
use Rattle.disk_layout.specs.Clean.{IsClean}
use Rattle.disk_layout.specs.Layout.{File, IsLayout, IsSound, Layout}
use Rattle.drive_channels.specs.Files.{IsRelAt}
use Rattle.drive_channels.specs.Inside.{IsFound, IsKnown, IsSpot, KeepsFound, at_spot, channel_at, channel_of, shown}
use Rattle.drive_channels.specs.Moments.{IsOpenedBy, IsOpenedFor, IsWrittenAt, IsWrittenOn}
use Rattle.drive_channels.specs.Spelling.{Wish}
use Rattle.drive_channels.specs.Tables.{InFile, Opens, OpensFile, Reads, ReadsIn, ValidatesTo, Writes, WritesIn}
use Rattle.drive_channels.specs.declared.faults.Dead.{Dead}
use Rattle.drive_channels.specs.declared.open_file.NamedFile.{NamedFile}
use Rattle.drive_channels.specs.declared.open_file.Position.{Position}
use Rattle.drive_channels.specs.declared.open_files.OpenFiles.{OpenFiles}
use Rattle.drive_channels.specs.declared.status.Status.{Status}
use Rattle.drive_channels.specs.declared.status.Status.TheVariants as statuses
use Rattle.layout_check.specs.Repaired.{MendsFrom}
use Rattle.rel_records.specs.File.{entry_of}
use Rattle.rel_records.specs.creation.Made.{IsCreating, creation_writes}

-- A number that the channel of a file can have.
pub record IsChannelNumber (channel : ℕ) : Type 0 where
  pub low : 2 ≤ channel
  pub high : channel ≤ 14

-- What is known is of the disk, a check has passed, and no channel is open.
pub record IsShut (img : Image) (k : OpenFiles) : Type 0 where
  pub known : IsKnown img k
  pub checked : k.checked ≡ true
  pub closed : channel_of k.last ≡ None

-- This is a place in a remembered file of a clean disk.
pub record IsPlace (img : Image) (e : NamedFile) (s : Position) : Type 0 where
  pub clean : IsClean img
  pub found : IsFound img e
  pub spot : IsSpot e s

-- A read at a place of a file gave these bytes, and went on from it.
pub record ReadsAt {D : Type 0} (S : History D) (old new : D) (e : NamedFile) (s s' : Position) (given : List ℕ)
    (result : Result Status Dead) : Type 0 where
  pub row : IfOk result (λ status. (before : Status) → (b : Bool) → InFile (at_spot (S.image old) e s before b)
      (ReadsIn (at_spot (S.image old) e s before b) given (at_spot (S.image old) e s' status b)))
  pub spot : OnOk result (IsSpot e s')
  pub reads : OnlyReads S old new 3
  pub failures : TellsFailure S old new result

-- A text was written at a place of a file, and the place went on from it. An empty text only made the record.
pub record WritesAt {D : Type 0} (S : History D) (old new : D) (e e' : NamedFile) (s s' : Position) (text : List ℕ)
    (result : Result Status Dead) : Type 0 where
  pub row : IfOk result (λ status. (before : Status) → (b : Bool) → InFile (at_spot (S.image old) e s before b)
      (WritesIn (at_spot (S.image old) e s before b) text (at_spot (S.image new) e' s' status b)))
  pub found : OnOk result (KeepsFound (S.image old) (S.image new) e e')
  pub spot : OnOk result (IsSpot e' s')
  pub writes : (l : Layout) → (f : File) → IsRelAt (S.image old) l (entry_of e.file) f
      → IsWrittenAt S old new (channel_at (entry_of e.file) s) l f text result
  pub refused : IfOk result (λ status. status ≡ statuses.FileTooLarge → OnlyReads S old new 1)
  pub reads : S.reads new ≤ S.reads old + 13
  pub failures : TellsFailure S old new result

-- A text was written to the channel of this number, if that is the open one.
pub record WritesOn {D : Type 0} (S : History D) (old new : D) (k k' : OpenFiles) (channel : ℕ) (text : List ℕ)
    (result : Result Status Dead) : Type 0 where
  pub row : IfOk result (λ status. (before : Status)
      → Writes (shown (S.image old) k before) channel text (shown (S.image new) k' status))
  pub known : OnOk result (IsKnown (S.image new) k')
  pub writes : IsWrittenOn S old new (channel_of k.last) channel text result
  pub refused : IfOk result (λ status. status ≡ statuses.FileTooLarge → OnlyReads S old new 1)
  pub reads : S.reads new ≤ S.reads old + 13
  pub failures : TellsFailure S old new result

-- A file that wasn't there was made and opened, or couldn't be.
pub record MakesFile {D : Type 0} (S : History D) (old new : D) (k k' : OpenFiles) (channel : ℕ) (name : List ℕ) (size : ℕ)
    (result : Result Status Dead) : Type 0 where
  pub row : IfOk result (λ status. (before : Status)
      → OpensFile (shown (S.image old) k before) channel (record { name = name; length = Some size })
      (shown (S.image new) k' status))
  pub known : OnOk result (IsKnown (S.image new) k')
  pub refused : IfOk result (λ status. status ≢ statuses.Ok → OnlyReads S old new 55)
  pub opened : IfOk result (λ status. status ≡ statuses.Ok → IsSome (channel_of k'.last))
  pub reads : OnOk result (S.reads new ≤ S.reads old + 55)
  pub moments : (l : Layout) → IsLayout (S.image old) l
      → Changes S old new (creation_writes l) (IsCreating (S.image old) l name size)
  pub failures : TellsFailure S old new result

-- The file of the text of open was opened, or made.
pub record OpensWish {D : Type 0} (S : History D) (old new : D) (k k' : OpenFiles) (channel : ℕ) (w : Wish)
    (result : Result Status Dead) : Type 0 where
  pub row : IfOk result (λ status. (before : Status)
      → OpensFile (shown (S.image old) k before) channel w (shown (S.image new) k' status))
  pub known : OnOk result (IsKnown (S.image new) k')
  pub opened : IsOpenedFor S old new 702 w (channel_of k'.last) result
  pub failures : TellsFailure S old new result

-- The file that a text of open names was opened.
pub record OpensText {D : Type 0} (S : History D) (old new : D) (k k' : OpenFiles) (channel : ℕ) (text : List ℕ)
    (result : Result Status Dead) : Type 0 where
  pub row : IfOk result (λ status. (before : Status)
      → Opens (shown (S.image old) k before) channel text (shown (S.image new) k' status))
  pub known : OnOk result (IsKnown (S.image new) k')
  pub opened : IsOpenedBy S old new text (channel_of k.last) (channel_of k'.last) result
  pub failures : TellsFailure S old new result

-- The disk was repaired, or isn't sound.
pub record Validates {D : Type 0} (S : History D) (old new : D) (result : Result Status Dead) : Type 0 where
  pub row : IfOk result (ValidatesTo (S.image old) (S.image new))
  pub moments : MendsFrom S old new 883
  pub unsound : (IsSound (S.image old) → ⊥) → OnlyReads S old new 2114
  pub quiet : IsClean (S.image old) → WritesNothing S old new
  pub reads : S.reads new ≤ S.reads old + 4179
  pub failures : TellsFailure S old new result

-- The directory was looked at for a file, unless it is remembered: at Ok this holds of the answer.
pub record LooksFor {D T : Type 0} (S : History D) (old new : D) (result : Result T Dead) (P : T → Type 0) : Type 0
  where
    pub found : IfOk result P
    pub reads : OnlyReads S old new 702
    pub failures : TellsFailure S old new result

-- The disk was checked, if no check had passed yet; the result is whether one has now.
pub record Checks {D : Type 0} (S : History D) (old new : D) (k k' : OpenFiles) (result : Result Bool Dead) : Type 0 where
  pub passed : IfOk result (λ passed. passed ≡ true → (k'.checked ≡ true) × IsKnown (S.image old) k')
  pub refused : IfOk result (λ passed. passed ≡ false → (k' ≡ k) × (k.checked ≡ false) × ¬ (IsClean (S.image old)))
  pub last : OnOk result (k'.last ≡ k.last)
  pub reads : OnlyReads S old new 2115
  pub failures : TellsFailure S old new result

-- The channel of this number was read, if that is the open one.
pub record ReadsOn {D : Type 0} (S : History D) (old new : D) (k k' : OpenFiles) (channel : ℕ) (given : List ℕ)
    (result : Result Status Dead) : Type 0 where
  pub row : IfOk result (λ status. (before : Status)
      → Reads (shown (S.image old) k before) channel given (shown (S.image old) k' status))
  pub known : OnOk result (IsKnown (S.image old) k')
  pub reads : OnlyReads S old new 3
  pub failures : TellsFailure S old new result
