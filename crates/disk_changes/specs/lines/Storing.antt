-- What a disk holds while records are stored from their lines, and what is left and reported in the end. Our own.
use Rattle.std.specs.Prelude.{◌≡◌, ◌≢◌, ◌⊎◌, ◌≤◌, Bool, ℕ, ◌+◌, ◌*◌, List, [], ◌∷◌, ◌++◌, Option, Result, Some, IfErr, IfOk, true}
use Rattle.std.specs.Prelude.{OnOk, drop, length, slice_get}
use Rattle.std.specs.Io.KnownBytes.{Appends}
use Rattle.d64_image.specs.History.{Changes, Failed, History, WritesNothing}
use Rattle.d64_image.specs.Images.{Image}
use Rattle.d64_image.specs.Memory.{sectors_in}
use Rattle.d64_image.specs.declared.place.Place.{Place}
use Rattle.disk_layout.specs.Fault.{HoldsOfClean, nowhere}
use Rattle.disk_layout.specs.Layout.{File, Layout, record_length}
use Rattle.disk_layout.specs.Records.{records}
use Rattle.disk_layout.specs.Rest.{IsFirst, IsNamed}
use Rattle.disk_layout.specs.Listed.{HasStock, NeverGrows}
use Rattle.disk_layout.specs.Whole.{HoldsWhole}
use Rattle.rel_records.specs.File.{length_of}
use Rattle.rel_records.specs.Others.{HasRecords, LeavesRecords}
use Rattle.rel_records.specs.Usable.{IsAsClean}
use Rattle.rel_records.specs.Written.{IsGrowingTo, grown_to}
use Rattle.rel_records.specs.declared.rel_file.RelFile.{RelFile}
use Rattle.rel_records.specs.growth.Growth.{IsFull, growth_writes, records_had}
use Rattle.line_text.specs.scripts.Lines.{lines}
use Rattle.disk_changes.specs.Judged.{HasStraysAlone, IsCleanWith}
use Rattle.disk_changes.specs.lines.Refusals.{IsLeft}
use Rattle.disk_changes.specs.mended.Repairs.{TellsKeep}
use Rattle.disk_changes.specs.lines.Stores.{AreLinesOf, AreSo, IsFirstBad, IsPartStored, IsSo, NewRecord, changed_text}
use Rattle.disk_changes.specs.lines.Stores.{greatest, is_changed, last_ones, stored, with_stored}
use Rattle.line_text.specs.bytes.Texts.{record_line}
use Rattle.command_faults.specs.declared.faults.CommandFault.{CommandFault}
use Rattle.command_faults.specs.declared.faults.CommandFault.TheVariants as faults

-- an image held while these are stored over rs, the records of the file at place n: a prefix of them is stored, and
-- perhaps the first part of the next
abbrev pub IsStoringOver : Image → Layout → ℕ → ℕ → List NewRecord → List (List ℕ) → Image → Type 0
IsStoringOver old l n L xs rs c = (ts : List (List ℕ)) × IsPartStored L xs rs ts × HasRecords old c l n ts

-- Storing this record over rs was the last thing done. If the output failed, the record is stored, rs had another, and a
-- beginning of its line is printed. If the device failed, it isn't stored, or its first part alone, and nothing is printed.
abbrev pub IsStoppedAt : (old new : Image) → Layout → (n L : ℕ) → NewRecord → List (List ℕ) → (printed : List ℕ)
    → CommandFault → Type 0
IsStoppedAt old new l n L x rs printed fault =
    ((fault ≡ faults.File) × (is_changed L x rs ≡ true) × HasRecords old new l n (with_stored L x rs)
    × ((rest : List ℕ) × (record_line x.number x.bytes ≡ printed ++ rest)))
    ⊎ ((fault ≡ faults.Device) × IsStoringOver old l n L (x ∷ []) rs new × (printed ≡ []))

-- Storing these over rs, the records of the file at place n, stopped at the record `one`. Those before it are stored, and
-- the lines of those that changed are printed.
pub record IsStopped (old new : Image) (before after : Option (List ℕ)) (l : Layout) (n L : ℕ) (xs : List NewRecord)
    (rs : List (List ℕ)) (fault : CommandFault) : Type 0 where
  pub front : List NewRecord
  pub one : NewRecord
  pub back : List NewRecord
  pub split : xs ≡ front ++ one ∷ back
  pub printed : List ℕ
  pub appends : Appends before after (changed_text L front rs ++ printed)
  pub stopped : IsStoppedAt old new l n L one (stored L front rs) printed fault

-- One record of f, the file at place n of the layout l, was stored, if it differed; the answer is whether it did. The
-- caller's view of the file was v, and is w now.
pub record StoresOne {D : Type 0} (S : History D) (old new : D) (l : Layout) (n : ℕ) (f : File) (v w : RelFile)
    (x : NewRecord) (result : Result Bool CommandFault) : Type 0 where
  pub ok : IfOk result (λ changed.
      LeavesRecords (S.image old) (S.image new) l n (with_stored (record_length f.slot) x (records (S.image old) f)) w
      × (length_of w ≡ length_of v) × (changed ≡ is_changed (record_length f.slot) x (records (S.image old) f)))
  pub moments : Changes S old new 2
      (IsStoringOver (S.image old) l n (record_length f.slot) (x ∷ []) (records (S.image old) f))
  pub whole : HoldsWhole S old new
  pub quiet : IsSo (record_length f.slot) (records (S.image old) f) x → WritesNothing S old new
  pub err : IfErr result (λ fault. fault ≡ faults.Device)
  pub told : TellsKeep S old new result

-- Records of f were stored, one after another, and the lines of those that changed were printed. The caller's view of the
-- file was v, and is w now.
pub record StoresLines {D W : Type 0} (S : History D) (contents : W → Option (List ℕ)) (old new : D) (before after : W)
    (l : Layout) (n : ℕ) (f : File) (v w : RelFile) (xs : List NewRecord) (result : Result (Unit {0}) CommandFault) : Type
    0
  where
    pub ok : OnOk result (
        LeavesRecords (S.image old) (S.image new) l n (stored (record_length f.slot) xs (records (S.image old) f)) w
        × (length_of w ≡ length_of v)
        × Appends (contents before) (contents after) (changed_text (record_length f.slot) xs (records (S.image old) f)))
    pub moments : Changes S old new (2 * length xs)
        (IsStoringOver (S.image old) l n (record_length f.slot) xs (records (S.image old) f))
    pub whole : HoldsWhole S old new
    pub quiet : AreSo (record_length f.slot) (records (S.image old) f) xs → WritesNothing S old new
    -- if the output failed, the disk is as clean as it was
    pub clean : IfErr result (λ fault. fault ≡ faults.File → IsAsClean (S.image old) l (S.image new))
    pub stopped : IfErr result (IsStopped (S.image old) (S.image new) (contents before) (contents after) l n
        (record_length f.slot) xs (records (S.image old) f))
    pub told : TellsKeep S old new result

-- these records over those of the file, which has grown to them if it had fewer: what is after them stays
abbrev pub put_over : List (List ℕ) → Image → File → List (List ℕ)
put_over rs img f = rs ++ drop (length rs) (grown_to img f (length rs))

-- an image held in the whole: the file grows to the greatest record, and then those that count are stored
abbrev pub IsStoring : Image → Layout → ℕ → File → List NewRecord → Image → Type 0
IsStoring old l n f xs c =
    IsGrowingTo old l n f (greatest xs) c
    ⊎ IsStoringOver old l n (record_length f.slot) (last_ones xs) (grown_to old f (greatest xs)) c

-- Nothing is wrong with the disk but that its map calls these sectors taken, which nobody owns, `file` is the first closed relative file of the name, and the text's lines are of these records,
-- which it has or can have. Whatever the disk held on the way is sound, with a prefix of those that count.
pub record IsStoreRun {D : Type 0} (S : History D) (image name text : List ℕ) (old new : D) : Type 0 where
  pub size : length image ≡ 174848
  pub layout : Layout
  pub strays : List Place
  pub usable : IsCleanWith strays (S.image old) layout
  -- its number among the entries
  pub number : ℕ
  pub file : File
  pub first : IsFirst layout name number file
  pub all : List NewRecord
  pub are_lines : AreLinesOf (record_length file.slot) (records_had file) (lines text) all
  pub moments : Changes S old new (growth_writes file (greatest all) + 2 * length (last_ones all))
      (IsStoring (S.image old) layout number file all)
  -- files that are whole are so in each image held; only if a shop's REQUESTS is to grow nothing is said
  pub whole : (NeverGrows (HasStock layout) file.slot → greatest all ≤ records_had file) → HoldsWhole S old new

-- And there was room, all of them are stored, and the disk is as clean as it was. If those that count were there already, nothing was
-- written.
pub record IsStoredDisk {D : Type 0} (S : History D) (image name text : List ℕ) (old new : D) : Type 0 where
  pub run : IsStoreRun S image name text old new
  pub fits : ¬ (IsFull (S.image old) run.file (greatest run.all))
  pub clean : IsAsClean (S.image old) run.layout (S.image new)
  pub has : HasRecords (S.image old) (S.image new) run.layout run.number
      (stored (record_length run.file.slot) run.all (grown_to (S.image old) run.file (greatest run.all)))
  pub quiet : AreSo (record_length run.file.slot) (records (S.image old) run.file) (last_ones run.all)
      → WritesNothing S old new

-- and the lines of those that count and changed, and nothing else, were printed, in order
pub record IsStoreDone {D W : Type 0} (S : History D) (contents : W → Option (List ℕ)) (image name text : List ℕ)
    (old new : D) (before after : W) : Type 0 where
  pub disk : IsStoredDisk S image name text old new
  pub printed : Appends (contents before) (contents after)
      (changed_text (record_length disk.run.file.slot) (last_ones disk.run.all)
      (grown_to (S.image old) disk.run.file (greatest disk.run.all)))

-- the lines aren't stored, since one is of no record that the file of the name has or can have: this one is the first
abbrev pub HasBadLine : List ℕ → List ℕ → ℕ → Layout → Type 0
HasBadLine name text k l = (n : ℕ) × (f : File) × IsFirst l name n f
    × IsFirstBad (record_length f.slot) (records_had f) (lines text) k

-- nor are they, since there is no room for the greatest record
abbrev pub HasNoStoreRoom : Image → List ℕ → List ℕ → Layout → Type 0
HasNoStoreRoom img name text l = (n : ℕ) × (f : File) × (xs : List NewRecord) × IsFirst l name n f
    × AreLinesOf (record_length f.slot) (records_had f) (lines text) xs × IsFull img f (greatest xs)

-- why records aren't stored, or that isn't printed. At a refusal something was printed only if the output or the device
-- failed
abbrev pub IsStoreFault : {D W : Type 0} → History D → List ℕ → List ℕ → List ℕ → D → D → W → W → CommandFault → Type 0
IsStoreFault S image name text old new before after faults.ImageSize =
    (length image ≢ 174848) × (new ≡ old) × (after ≡ before)
IsStoreFault S image name text old new before after faults.NoMemory =
    (length image ≡ 174848) × (new ≡ old) × (after ≡ before)
IsStoreFault S image name text old new before after (faults.Layout fault) =
    (length image ≡ 174848) × HoldsOfClean nowhere (sectors_in image) fault × ¬ (HasStraysAlone (sectors_in image))
    × (new ≡ old) × (after ≡ before)
IsStoreFault S image name text old new before after faults.NoFile = IsLeft S image old new before after
    (λ l. (k : ℕ) (f : File) → slice_get l.files k ≡ Some f → ¬ (IsNamed name f))
IsStoreFault S image name text old new before after (faults.RecordsLine k) =
    IsLeft S image old new before after (HasBadLine name text k)
IsStoreFault S image name text old new before after faults.DiskFull =
    IsLeft S image old new before after (HasNoStoreRoom (S.image old) name text)
-- the output failed: what was stored until then stays, and the disk is as clean as it was
IsStoreFault S image name text old new before after faults.File =
    (run : IsStoreRun S image name text old new) × IsAsClean (S.image old) run.layout (S.image new)
-- the device failed, when the file was looked for or after that
IsStoreFault S image name text old new before after faults.Device =
    Failed S old new
    × (IsLeft S image old new before after (λ l. Unit {0}) ⊎ IsStoreRun S image name text old new)
IsStoreFault S image name text old new before after _ = ⊥

-- a run stopped at one of the records that count, which are stored over those of the file that has grown
abbrev pub IsStoppedRun : {D W : Type 0} → History D → (W → Option (List ℕ)) → List ℕ → List ℕ → List ℕ → D → D → W → W
    → CommandFault → Type 0
IsStoppedRun S contents image name text old new before after fault = (run : IsStoreRun S image name text old new)
    × IsStopped (S.image old) (S.image new) (contents before) (contents after) run.layout run.number
    (record_length run.file.slot) (last_ones run.all) (grown_to (S.image old) run.file (greatest run.all)) fault

-- What was printed of records that aren't all stored, or whose lines aren't all printed. It is nothing, if the output
-- didn't fail. All of it, if the output failed at the very end. Or it stopped at one of them.
abbrev pub IsStorePart : {D W : Type 0} → History D → (W → Option (List ℕ)) → List ℕ → List ℕ → List ℕ → D → D → W → W
    → CommandFault → Type 0
IsStorePart S contents image name text old new before after fault =
    ((fault ≢ faults.File) × (after ≡ before))
    ⊎ (((fault ≡ faults.File) × IsStoreDone S contents image name text old new before after)
    ⊎ IsStoppedRun S contents image name text old new before after fault)
