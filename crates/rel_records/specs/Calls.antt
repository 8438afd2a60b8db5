-- What each call on a relative file promises, at Ok and at an error. All of it is our own.
use Rattle.std.specs.Prelude.{ℕ, ◌≡◌, ◌≢◌, ◌⊎◌, ◌↔◌, ◌≤◌, ◌<◌, ◌+◌, Err, IfErr, IfOk, IsOk, List, OnErr, OnOk}
use Rattle.std.specs.Prelude.{Result, Some, length, slice_get}
use Rattle.d64_image.specs.History.{Changes, FailsInOneStep, History, OnlyReads, TellsFailure, WritesNothing}
use Rattle.d64_image.specs.Images.{Image, Sector, sector}
use Rattle.d64_image.specs.declared.faults.DeviceFault.{DeviceFault}
use Rattle.disk_layout.specs.Directory.{map_place}
use Rattle.disk_layout.specs.Layout.{File, IsLayout, Layout, record_length}
use Rattle.disk_layout.specs.Records.{records}
use Rattle.disk_layout.specs.Rest.{IsFirst, IsNamed}
use Rattle.disk_layout.specs.View.{blocks_free}
use Rattle.rel_records.specs.Faults.{TellsRelFault}
use Rattle.rel_records.specs.File.{IsFileOf, IsOf, OfItsFile, blocks_of, entry_of, length_of, records_in}
use Rattle.rel_records.specs.Others.{KeepsRelFiles, LeavesRecords}
use Rattle.rel_records.specs.Usable.{IsUsable}
use Rattle.rel_records.specs.Written.{IsAbsent, IsDone, IsGrowingBy, IsGrowingTo, IsInOneBlock, IsRecord, IsWriting}
use Rattle.rel_records.specs.Written.{grown_to, touched, with_written}
use Rattle.rel_records.specs.creation.Made.{HasNoRoomFor, IsCreating, IsMade, IsTakenName, StaysOf, creation_writes}
use Rattle.rel_records.specs.creation.Site.{HasFileAt, IsSite}
use Rattle.rel_records.specs.declared.creation.site.Site.{Site}
use Rattle.rel_records.specs.declared.faults.RelFault.{RelFault}
use Rattle.rel_records.specs.declared.faults.RelFault.TheVariants.{Device, Exists, Full, NotFound, NotPresent, Overflow}
use Rattle.rel_records.specs.declared.faults.RelFault.TheVariants.{TooLarge}
use Rattle.rel_records.specs.declared.rel_file.RelFile.{RelFile}
use Rattle.rel_records.specs.growth.Growth.{IsFull, IsTooLarge, added, growth_writes, needed, records_had}

-- At most this number of sectors are read and none is written. At Ok this holds of the result; the one error is the
-- device's.
pub record ReadsAtMost {D T : Type 0} (S : History D) (old new : D) (most : ℕ) (result : Result T RelFault)
    (P : T → Type 0) : Type 0 where
  pub ok : IfOk result P
  pub err : IfErr result (λ e. e ≡ Device)
  pub reads : OnlyReads S old new most
  pub failures : TellsRelFault S old new result

-- At most this number of sectors are written, and this number read. At Ok this holds of the image; each image on the
-- way is one of these.
pub record WritesAtMost {D T E : Type 0} (S : History D) (old new : D) (most read : ℕ) (held done : Image → Type 0)
    (result : Result T E) : Type 0 where
  pub ok : OnOk result (done (S.image new))
  pub moments : Changes S old new most held
  pub reads : S.reads new ≤ S.reads old + read
  pub failures : TellsFailure S old new result

-- The first closed relative file of this name was found, or the directory has none.
pub record FindsFile {D : Type 0} (S : History D) (old new : D) (name : List ℕ)
    (result : Result RelFile RelFault) : Type 0 where
  pub ok : (l : Layout) → IsLayout (S.image old) l → IfOk result (λ v.
      (f : File) × IsFirst l name (entry_of v) f × IsFileOf (S.image old) l (entry_of v) f v)
  pub not_found : (l : Layout) → IsLayout (S.image old) l → IfErr result (λ e.
      e ≡ NotFound → (k : ℕ) → (f : File) → slice_get l.files k ≡ Some f → ¬ (IsNamed name f))
  pub told : IfErr result (λ e. (e ≡ NotFound) ⊎ (e ≡ Device))
  -- eighteen sectors of the directory, the chain, a side sector
  pub reads : OnlyReads S old new 702
  pub failures : TellsRelFault S old new result

-- These are the bytes of this record of the file that v is of, all of them.
pub record HasRead (img : Image) (v : RelFile) (number : ℕ) (text : List ℕ) : Type 0 where
  pub bytes : OfItsFile img v (λ l n f. IsRecord (records img f) number text)
  pub size : length text ≡ length_of v

-- A record was read into a text. If the record isn't there, nothing was read.
pub record ReadsRecord {D : Type 0} (S : History D) (old new : D) (v : RelFile) (number : ℕ) (text : List ℕ) (most : ℕ)
    (result : Result (Unit {0}) RelFault) : Type 0 where
  pub ok : OfItsFile (S.image old) v (λ l n f. OnOk result (IsRecord (records (S.image old) f) number text))
  pub size : OnOk result (length text ≡ length_of v)
  pub bound : OnOk result (number ≤ 182880)
  pub not_present : OfItsFile (S.image old) v (λ l n f.
      IfErr result (λ e. e ≡ NotPresent → IsAbsent (records (S.image old) f) number))
  pub told : IfErr result (λ e. (e ≡ NotPresent) ⊎ (e ≡ Device))
  pub reads : OnlyReads S old new most
  pub failures : TellsRelFault S old new result

-- Record `number` of the file that v is of is there, and this is a position in it, counted from 1.
pub record IsPosition (img : Image) (v : RelFile) (number position : ℕ) : Type 0 where
  pub usable : IsUsable img
  pub of : IsOf img v
  pub low : 1 ≤ number
  pub high : number ≤ records_in v
  pub position_low : 1 ≤ position
  pub position_high : position ≤ length_of v

-- A text was written from a position on into a record of f, the file at place n of the layout l.
pub record WritesOver {D : Type 0} (S : History D) (old new : D) (l : Layout) (n : ℕ) (f : File) (v : RelFile)
    (number position : ℕ)
    (text : List ℕ) (most : ℕ) (result : Result (Unit {0}) RelFault) : Type 0 where
  pub ok : OnOk result (LeavesRecords (S.image old) (S.image new) l n
      (with_written (record_length f.slot) number position text (records (S.image old) f)) v)
  pub moments : Changes S old new most (IsWriting (S.image old) l n f 0 number position text)

-- A text was written from a position on into a record that is there, with at most this number of writes, and of reads.
pub record WritesThere {D : Type 0} (S : History D) (old new : D) (v : RelFile) (number position : ℕ) (text : List ℕ)
    (most read : ℕ)
    (result : Result (Unit {0}) RelFault) : Type 0 where
  pub file : OfItsFile (S.image old) v (λ l n f. WritesOver S old new l n f v number position text most result)
  pub err : IfErr result (λ e. e ≡ Device)
  -- a record in one block is written in one step
  pub one_step : IsInOneBlock (length_of v) number → OnErr result (FailsInOneStep S old new)
  pub reads : S.reads new ≤ S.reads old + read
  pub failures : TellsRelFault S old new result

-- A text was written into a record of f, the file at place n of the layout l, which grew if it had to. In memory w is
-- kept of the file.
pub record WritesFile {D : Type 0} (S : History D) (old new : D) (l : Layout) (n : ℕ) (f : File) (w : RelFile)
    (number position : ℕ)
    (text : List ℕ) (result : Result (Unit {0}) RelFault) : Type 0 where
  -- the record is written, whole or cut
  pub done : IsDone result → LeavesRecords (S.image old) (S.image new) l n
      (with_written (record_length f.slot) number position text (grown_to (S.image old) f number)) w
  pub too_large : (result ≡ Err TooLarge) ↔ IsTooLarge f number
  pub full : IfErr result (λ e. e ≡ Full → IsFull (S.image old) f number)
  pub fits : IsDone result → ¬ (IsFull (S.image old) f number)
  -- every image held, and the writes
  pub moments : Changes S old new (growth_writes f number + touched (record_length f.slot) number position)
      (IsWriting (S.image old) l n f (added (record_length f.slot) (records_had f) number) number position text)
  pub others : KeepsRelFiles (S.image old) (S.image new) l n

-- A text was written from a position on into a record, or growth was refused for it. In memory v was kept of the file,
-- and w is now.
pub record WritesRecord {D : Type 0} (S : History D) (old new : D) (v w : RelFile) (number position : ℕ) (text : List ℕ)
    (result : Result (Unit {0}) RelFault) : Type 0 where
  pub file : OfItsFile (S.image old) v (λ l n f. WritesFile S old new l n f w number position text result)
  pub ok : OnOk result (length text + position ≤ length_of v + 1)
  pub overflow : IfErr result (λ e. e ≡ Overflow → length_of v + 1 < length text + position)
  pub there : IsDone result → (number ≤ records_in w) × (number ≤ 182880)
  pub same : IsDone result → length_of w ≡ length_of v
  pub told : IfErr result (λ e. (e ≡ Overflow) ⊎ ((e ≡ TooLarge) ⊎ ((e ≡ Full) ⊎ (e ≡ Device))))
  -- growth was refused
  pub refused : IfErr result (λ e. e ≢ Device → e ≢ Overflow → (w ≡ v) × OnlyReads S old new 1)
  -- a record that is there and lies in one block is written in one step: if that fails, no write was counted, and what was
  -- shown of it isn't taken back
  pub one_step : number ≤ records_in v → IsInOneBlock (length_of v) number
      → IfErr result (λ e. e ≢ Overflow → FailsInOneStep S old new)
  -- those of a growth, the side sector that names the block, and the blocks, one or two
  pub reads : S.reads new ≤ S.reads old + 13
  pub few : number ≤ records_in v → S.reads new ≤ S.reads old + 3
  pub entry : entry_of w ≡ entry_of v
  pub failures : TellsRelFault S old new result

-- f, the file at place n of the layout l, grew to a record, or couldn't; w is kept of it.
pub record GrowsFile {D : Type 0} (S : History D) (old new : D) (l : Layout) (n : ℕ) (f : File) (w : RelFile)
    (number : ℕ)
    (result : Result (Unit {0}) RelFault) : Type 0 where
  pub ok : OnOk result (LeavesRecords (S.image old) (S.image new) l n (grown_to (S.image old) f number) w)
  -- each refusal, exactly
  pub too_large : (result ≡ Err TooLarge) ↔ IsTooLarge f number
  pub full : IfErr result (λ e. e ≡ Full → IsFull (S.image old) f number)
  pub fits : OnOk result (¬ (IsFull (S.image old) f number))
  -- every image held, and the writes: those of the filling, then five for each block and one for each older side sector
  pub moments : Changes S old new (growth_writes f number) (IsGrowingTo (S.image old) l n f number)
  pub others : KeepsRelFiles (S.image old) (S.image new) l n

-- A file grew so that a record is there, or growth was refused. In memory v was kept of the file, and w is now.
pub record Grows {D : Type 0} (S : History D) (old new : D) (v w : RelFile) (number : ℕ)
    (result : Result (Unit {0}) RelFault) : Type 0 where
  pub file : OfItsFile (S.image old) v (λ l n f. GrowsFile S old new l n f w number result)
  pub there : OnOk result (number ≤ records_in w)
  pub same : OnOk result (length_of w ≡ length_of v)
  -- a record that is there: nothing is done
  pub quiet : number ≤ records_in v → IsOk result × (w ≡ v) × OnlyReads S old new 0
  pub told : IfErr result (λ e. (e ≡ TooLarge) ⊎ ((e ≡ Full) ⊎ (e ≡ Device)))
  pub refused : IfErr result (λ e. e ≢ Device → (w ≡ v) × OnlyReads S old new 1)
  -- the map, the side sectors, the directory sector, the last two blocks
  pub reads : S.reads new ≤ S.reads old + 10
  pub entry : entry_of w ≡ entry_of v
  pub failures : TellsRelFault S old new result

-- What growth to this number of data blocks requires: these bytes are the map, and there are enough free sectors.
pub record MayGrow (img : Image) (v : RelFile) (bytes : Sector) (wanted : ℕ) : Type 0 where
  pub usable : IsUsable img
  pub of : IsOf img v
  pub map : bytes ≡ sector img map_place
  pub more : blocks_of v ≤ wanted
  pub few : wanted ≤ 720
  pub room : needed (blocks_of v) wanted ≤ blocks_free bytes

-- f, the file at place n of the layout l, got up to this number of empty records after its own; at Ok this holds of it.
pub record GrowsBy {D : Type 0} (S : History D) (old new : D) (l : Layout) (n : ℕ) (f : File) (most more : ℕ)
    (done : Type 0)
    (result : Result (Unit {0}) DeviceFault) : Type 0 where
  pub ok : OnOk result done
  pub moments : Changes S old new most (IsGrowingBy (S.image old) l n f more)

-- A file of this name was made as the site has it.
pub record MakesFile {D : Type 0} (S : History D) (old new : D) (l : Layout) (name : List ℕ) (size : ℕ) (s : Site)
    (result : Result (Unit {0}) DeviceFault) : Type 0 where
  pub ok : OnOk result (HasFileAt (S.image old) l name size s (S.image new))
  pub moments : Changes S old new (creation_writes l) (IsCreating (S.image old) l name size)

-- A new file of this name, which takes n sectors, is refused for a cause, each exactly, or isn't.
pub record RefusesName {T : Type 0} (img : Image) (l : Layout) (name : List ℕ) (n : ℕ) (result : Result T RelFault)
    : Type 0 where
  pub exists : IfErr result (λ e. e ≡ Exists → IsTakenName l name)
  pub full : IfErr result (λ e. e ≡ Full → HasNoRoomFor img l n × ¬ (IsTakenName l name))
  pub fits : OnOk result (¬ (HasNoRoomFor img l n) × ¬ (IsTakenName l name))

-- A refusal writes nothing: three times the eighteen sectors of the directory are read, and the map.
pub record Refuses {D T : Type 0} (S : History D) (old new : D) (name : List ℕ) (n : ℕ) (result : Result T RelFault)
    : Type 0 where
  pub layout : (l : Layout) → IsLayout (S.image old) l → RefusesName (S.image old) l name n result
  pub told : IfErr result (λ e. (e ≡ Exists) ⊎ ((e ≡ Full) ⊎ (e ≡ Device)))
  pub refused : IfErr result (λ e. e ≢ Device → OnlyReads S old new 55)
  pub failures : TellsRelFault S old new result

-- What a new file takes was chosen, or it was refused; nothing was written.
pub record Chooses {D : Type 0} (S : History D) (old new : D) (name : List ℕ) (n : ℕ) (result : Result Site RelFault)
    : Type 0 where
  pub ok : (l : Layout) → IsLayout (S.image old) l → IfOk result (IsSite (S.image old) l n)
  pub refuses : Refuses S old new name n result
  pub quiet : WritesNothing S old new
  pub reads : OnOk result (S.reads new ≤ S.reads old + 55)

-- A file was created, or not; l is the layout.
pub record CreatesFile {D : Type 0} (S : History D) (old new : D) (l : Layout) (name : List ℕ) (size : ℕ)
    (result : Result RelFile RelFault) : Type 0 where
  pub ok : IfOk result (IsMade (S.image old) l name size (S.image new))
  -- every image held, and the writes
  pub moments : Changes S old new (creation_writes l) (IsCreating (S.image old) l name size)

-- A file was created, or refused.
pub record Creates {D : Type 0} (S : History D) (old new : D) (name : List ℕ) (size : ℕ)
    (result : Result RelFile RelFault) : Type 0 where
  pub layout : (l : Layout) → IsLayout (S.image old) l → CreatesFile S old new l name size result
  pub refuses : Refuses S old new name 2 result
  -- as many as a refusal reads
  pub reads : OnOk result (S.reads new ≤ S.reads old + 55)
  -- what is kept in memory of any file stays right
  pub others : (v : RelFile) → OfItsFile (S.image old) v (λ l n f. StaysOf (S.image old) (S.image new) f v)
