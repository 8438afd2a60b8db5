-- What comes of storing records in a file of an image. Our own.
use Rattle.std.specs.Prelude.{◌≡◌, ◌⊎◌, List, [], Some, slice_get, ℕ}
use Rattle.command_faults.specs.declared.faults.CommandFault.TheVariants as faults
use Rattle.d64_image.specs.Memory.{disk_image, sectors_in}
use Rattle.damaged_files.specs.declared.sides.planning.Loss.{Loss}
use Rattle.disk_changes.specs.Judged.{IsUnusable, IsUsableBut, IsUsableDisk}
use Rattle.disk_changes.specs.declared.changes.Changed.{Changed}
use Rattle.disk_changes.specs.declared.changes.Columns.{Columns}
use Rattle.disk_changes.specs.declared.changes.Columns.TheVariants as columns
use Rattle.disk_changes.specs.lines.TypedLines.{AreMadeOf}
use Rattle.file_rescues.specs.Records.{IsRecordFile}
use Rattle.line_text.specs.declared.petscii.characters.CharacterSet.{CharacterSet}
use Rattle.command_faults.specs.declared.faults.CommandFault.{CommandFault}
use Rattle.disk_layout.specs.Layout.{File, record_length}
use Rattle.disk_layout.specs.Records.{records}
use Rattle.disk_layout.specs.Rest.{IsFirst, IsNamed}
use Rattle.disk_changes.specs.lines.Stores.{AreLinesOf, AreSo, NewRecord, changed_text, greatest, last_ones, stored}
use Rattle.disk_changes.specs.lines.Storing.{HasBadLine, HasNoStoreRoom}
use Rattle.line_text.specs.scripts.Lines.{lines}
use Rattle.rel_records.specs.Others.{HasRecords}
use Rattle.rel_records.specs.Usable.{IsAsClean}
use Rattle.rel_records.specs.Written.{grown_to}
use Rattle.rel_records.specs.growth.Growth.{IsFull, records_had}

-- `file` is the first closed relative file of the name, and the lines of the text that is given are of the records `all`, which it has or can
-- have. Those that count, of two of one record the last, are stored on the disk that comes of it, in the file that has
-- grown to the greatest of them. Sectors that nobody owns stay taken, or free unless the file grew into them. The lines of
-- those that changed are printed, in order.
pub record IsStored (image name given : List ℕ) (cut : Loss) (made : Changed) : Type 0 where
  pub before : IsUsableDisk image cut
  -- its number among the entries
  pub number : ℕ
  pub file : File
  pub first : IsFirst before.layout name number file
  pub all : List NewRecord
  pub are_lines : AreLinesOf (record_length file.slot) (records_had file) (lines given) all
  pub fits : ¬ (IsFull (sectors_in image) file (greatest all))
  pub clean : IsAsClean (sectors_in image) before.layout (disk_image made.disk)
  pub has : HasRecords (sectors_in image) (disk_image made.disk) before.layout number
      (stored (record_length file.slot) all (grown_to (sectors_in image) file (greatest all)))
  -- if those that count were there already, the disk is as it was
  pub quiet : AreSo (record_length file.slot) (records (sectors_in image) file) (last_ones all)
      → disk_image made.disk ≡ sectors_in image
  pub text : made.text.items ≡
      changed_text (record_length file.slot) (last_ones all) (grown_to (sectors_in image) file (greatest all))

-- why records aren't stored
abbrev pub IsStoreRefusal : (image name text : List ℕ) → Loss → CommandFault → Type 0
IsStoreRefusal image name text cut faults.NoFile = IsUsableBut image cut
    (λ l. (k : ℕ) (f : File) → slice_get l.files k ≡ Some f → ¬ (IsNamed name f))
IsStoreRefusal image name text cut (faults.RecordsLine k) = IsUsableBut image cut (HasBadLine name text k)
IsStoreRefusal image name text cut faults.DiskFull =
    IsUsableBut image cut (HasNoStoreRoom (sectors_in image) name text)
IsStoreRefusal image name text cut why = IsUnusable image cut why

-- the text is made of the lines that were given, which are typed in the characters of this set, over the records of the file
abbrev pub IsTypedText : CharacterSet → (image name given text : List ℕ) → Type 0
IsTypedText set image name given text = (file : File) × IsRecordFile image name file
    × AreMadeOf set (records (sectors_in image) file) (lines given) text

-- lines with these columns are stored so: typed ones as the lines that are made of them
abbrev pub IsStoredAs : Columns → (image name given : List ℕ) → Loss → Changed → Type 0
IsStoredAs (columns.Text set) image name given cut made =
    (text : List ℕ) × IsTypedText set image name given text × IsStored image name text cut made
IsStoredAs _ image name given cut made = IsStored image name given cut made

-- why they aren't: typed ones because not even no line is, or because the lines that are made of them aren't
abbrev pub IsNotStoredAs : Columns → (image name given : List ℕ) → Loss → CommandFault → Type 0
IsNotStoredAs (columns.Text set) image name given cut why = IsStoreRefusal image name [] cut why
    ⊎ ((text : List ℕ) × IsTypedText set image name given text × IsStoreRefusal image name text cut why)
IsNotStoredAs _ image name given cut why = IsStoreRefusal image name given cut why
