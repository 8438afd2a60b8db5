-- The records of a relative file of an image that may have more tracks than 35. What is printed of them is our own.
use Rattle.std.specs.Prelude.{◌≡◌, ◌⊎◌, ⊤, ℕ, List, None, Option, Some}
use Rattle.std.specs.Io.KnownBytes.{Appends}
use Rattle.d64_image.specs.declared.place.Place.{Place}
use Rattle.damaged_files.specs.reached.Sizes.{disk_of}
use Rattle.disk_layout.specs.Layout.{record_length}
use Rattle.disk_layout.specs.declared.faults.Fault.{Fault}
use Rattle.disk_layout.specs.declared.slot.Slot.{Slot}
use Rattle.command_faults.specs.Faults.{IsLoadFault}
use Rattle.command_faults.specs.Outputs.{HandsPart}
use Rattle.command_faults.specs.declared.faults.CommandFault.{CommandFault}
use Rattle.command_faults.specs.declared.faults.CommandFault.TheVariants as faults
use Rattle.file_rescues.specs.Forms.{records_as}
use Rattle.file_rescues.specs.Long.{IsLongFile, IsNoLongFile}
use Rattle.file_rescues.specs.Printed.{AreRecordsTaken, AreUnclosedTaken, IsRecordsFault, IsRecordsPart, IsUnclosedFault, IsUnclosedPart}
use Rattle.file_rescues.specs.Records.{records_of}
use Rattle.file_rescues.specs.declared.finding.Candidates.{Candidates}
use Rattle.file_rescues.specs.declared.finding.Candidates.TheVariants.{All, Closed}
use Rattle.file_rescues.specs.declared.finding.Kind.TheVariants.{Records}
use Rattle.file_rescues.specs.declared.forms.RecordForm.{RecordForm}
use Rattle.long_chains.specs.Chains.{data_of}

-- the records that an entry's file has in these sectors, in a form
abbrev pub long_lines : RecordForm → (image : List ℕ) → Slot → (sectors : List ℕ) → List ℕ
long_lines form image s ns = records_as form (records_of (record_length s) (data_of image ns))

module _ {W : Type 0} (contents : W → Option (List ℕ)) (form : RecordForm) where
  -- of a disk: those of the first closed file of that name were printed, or of the first one of all
  abbrev pub AreDiskRecordsTaken : Candidates → (image name : List ℕ) → W → W → Option Place → Type 0
  AreDiskRecordsTaken Closed image name old new cut = AreRecordsTaken contents form image name old new cut
  AreDiskRecordsTaken All image name old new cut = AreUnclosedTaken contents form image name old new cut

  -- why they weren't, or not surely all of them, and what was printed then
  abbrev pub WhyNoDiskRecords : Candidates → (image name : List ℕ) → W → W → CommandFault → Type 0
  WhyNoDiskRecords Closed image name old new fault =
      IsRecordsFault contents form image name old new fault × IsRecordsPart contents form image name old new
  WhyNoDiskRecords All image name old new fault =
      IsUnclosedFault contents form image name old new fault × IsUnclosedPart contents form image name old new

  -- all records of the first such file, which goes on past track 35, were printed, and nothing else
  pub record AreLongRecordsPrinted (candidates : Candidates) (image name : List ℕ) (old new : W) : Type 0 where
    pub sectors : List ℕ
    pub file : IsLongFile image (Records candidates) name sectors None
    pub printed : Appends (contents old) (contents new) (long_lines form image file.slot sectors)

  -- why these lines weren't printed, or are perhaps not all: for this reason beside the chain of their file
  abbrev pub IsLinesStop : (lines : List ℕ) → (apart : Option Fault) → W → W → CommandFault → Type 0
  IsLinesStop lines apart old new faults.NoMemory = new ≡ old
  IsLinesStop lines apart old new (faults.Layout fault) =
      (apart ≡ Some fault) × Appends (contents old) (contents new) lines
  IsLinesStop lines apart old new faults.File = ⊤
  IsLinesStop lines apart old new _ = ⊥

  -- and what was: nothing, or a beginning of them
  abbrev pub AreLinesStopped : (lines : List ℕ) → (apart : Option Fault) → W → W → CommandFault → Type 0
  AreLinesStopped lines apart old new fault = IsLinesStop lines apart old new fault
      × ((new ≡ old) ⊎ HandsPart (contents old) (contents new) lines)

  -- the same of the first such file, which goes on past track 35; or the disk of the image wasn't loaded
  abbrev pub WhyNoLongRecords : Candidates → (image name : List ℕ) → W → W → CommandFault → Type 0
  WhyNoLongRecords candidates image name old new fault =
      (IsLoadFault (disk_of image) fault × (new ≡ old))
      ⊎ ((sectors : List ℕ) × (apart : Option Fault) × (file : IsLongFile image (Records candidates) name sectors apart)
      × AreLinesStopped (long_lines form image file.slot sectors) apart old new fault)

  -- the records of the first file of that name were printed: of the disk of an image, or of all its tracks if the file goes on past
  -- track 35. On the disk it is cut short there, or isn't
  abbrev pub AreRecordsOut : Candidates → (image name : List ℕ) → W → W → Option Place → Type 0
  AreRecordsOut candidates image name old new cut =
      (IsNoLongFile image (Records candidates) name × AreDiskRecordsTaken candidates (disk_of image) name old new cut)
      ⊎ (AreLongRecordsPrinted candidates image name old new × (cut ≡ None))

  -- why they weren't, or not surely all of them
  abbrev pub WhyNotOut : Candidates → (image name : List ℕ) → W → W → CommandFault → Type 0
  WhyNotOut candidates image name old new fault =
      (IsNoLongFile image (Records candidates) name × WhyNoDiskRecords candidates (disk_of image) name old new fault)
      ⊎ WhyNoLongRecords candidates image name old new fault
