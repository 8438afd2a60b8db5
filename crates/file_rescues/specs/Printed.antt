-- What was printed of a file of an image. All of it is our own.
use Rattle.std.specs.Prelude.{◌≡◌, ◌≢◌, ◌⊎◌, ⊤, ℕ, ◌-◌, List, None, Option, Some, if◌then◌else◌, length, slice_get}
use Rattle.std.specs.Io.KnownBytes.{Appends}
use Rattle.std.specs.Option.{option_or}
use Rattle.d64_image.specs.Images.{Image}
use Rattle.d64_image.specs.Memory.{sectors_in}
use Rattle.d64_image.specs.declared.place.Place.{Place}
use Rattle.damaged_files.specs.cut.Told.{IsToldOfImage}
use Rattle.damaged_files.specs.reached.Sizes.{disk_of}
use Rattle.disk_layout.specs.Layout.{File, record_length}
use Rattle.disk_layout.specs.Records.{records}
use Rattle.disk_layout.specs.declared.faults.Fault.{Fault}
use Rattle.command_faults.specs.Faults.{IsLoadFault}
use Rattle.command_faults.specs.Outputs.{HandsPart}
use Rattle.line_text.specs.basic.Listings.{is_ended}
use Rattle.file_rescues.specs.Bytes.{HasFile, HasNoFile, file_bytes}
use Rattle.file_rescues.specs.Forms.{HasForm, file_as, past_end, records_as}
use Rattle.file_rescues.specs.Long.{IsLongFile, IsNoLongFile}
use Rattle.file_rescues.specs.Records.{HasNoReached, HasNoRecordFile, IsReachedFile, IsRecordFile, records_of}
use Rattle.command_faults.specs.declared.faults.CommandFault.{CommandFault}
use Rattle.command_faults.specs.declared.faults.CommandFault.TheVariants as faults
use Rattle.file_rescues.specs.declared.finding.Candidates.{Candidates}
use Rattle.file_rescues.specs.declared.finding.Candidates.TheVariants.{All}
use Rattle.file_rescues.specs.declared.finding.Kind.{Kind}
use Rattle.file_rescues.specs.declared.finding.Kind.TheVariants.{Any, Records}
use Rattle.file_rescues.specs.declared.forms.FileForm.{FileForm}
use Rattle.file_rescues.specs.declared.forms.FileForm.TheVariants as files
use Rattle.file_rescues.specs.declared.forms.RecordForm.{RecordForm}
use Rattle.long_chains.specs.Chains.{data_of}

-- the lines of the records of the image's first closed relative file of that name, and nothing else, were handed to an
-- output that held `old` and holds `new`
pub record AreRecordsPrinted {W : Type 0} (contents : W → Option (List ℕ)) (form : RecordForm) (image name : List ℕ)
    (old new : W) : Type 0 where
  pub file : File
  pub is_file : IsRecordFile image name file
  pub printed : Appends (contents old) (contents new) (records_as form (records (sectors_in image) file))

-- they were, and this file is cut short there, or isn't
abbrev pub AreRecordsTaken : {W : Type 0} → (W → Option (List ℕ)) → RecordForm → (image name : List ℕ) → W → W
    → Option Place → Type 0
AreRecordsTaken contents form image name old new cut =
    (printed : AreRecordsPrinted contents form image name old new)
    × IsToldOfImage image (Some printed.is_file.number) cut

-- of a disk that isn't sound: the lines of the records among the bytes that can be reached of the first closed file of
-- that name that has records, and nothing else, were; and this fault is reported
pub record AreReachedPrinted {W : Type 0} (contents : W → Option (List ℕ)) (form : RecordForm) (img : Image)
    (name : List ℕ) (fault : Fault) (old new : W) : Type 0 where
  pub file : IsReachedFile img name fault
  pub printed : Appends (contents old) (contents new)
      (records_as form (records_of (record_length file.slot) (file_bytes img file.blocks file.last)))

-- Why records aren't printed, or not surely all. If a disk isn't sound, those that can be reached are printed. If the
-- output failed, there is such a file
abbrev pub IsRecordsFault : {W : Type 0} → (W → Option (List ℕ)) → RecordForm → (image name : List ℕ) → W → W → CommandFault
    → Type 0
IsRecordsFault contents form image name old new faults.ImageSize = (length image ≢ 174848) × (new ≡ old)
IsRecordsFault contents form image name old new faults.NoMemory = (length image ≡ 174848) × (new ≡ old)
IsRecordsFault contents form image name old new (faults.Layout fault) =
    (length image ≡ 174848) × ((HasNoReached (sectors_in image) name fault × (new ≡ old))
    ⊎ AreReachedPrinted contents form (sectors_in image) name fault old new)
IsRecordsFault contents form image name old new faults.NoFile = HasNoRecordFile image name × (new ≡ old)
IsRecordsFault contents form image name old new faults.File = ((file : File) × IsRecordFile image name file)
    ⊎ ((length image ≡ 174848) × (fault : Fault) × IsReachedFile (sectors_in image) name fault)
IsRecordsFault contents form image name old new _ = ⊥

-- what was printed of a disk that isn't sound: nothing, or a beginning of the lines of the file that can be reached
abbrev pub IsReachedPart : {W : Type 0} → (W → Option (List ℕ)) → RecordForm → Image → (name : List ℕ) → W → W → Type 0
IsReachedPart contents form img name old new = (new ≡ old) ⊎ ((fault : Fault) × (file : IsReachedFile img name fault)
    × HandsPart (contents old) (contents new)
    (records_as form (records_of (record_length file.slot) (file_bytes img file.blocks file.last))))

-- What was printed of records that aren't all printed: a beginning of the lines of the image's file, or what is printed of a
-- disk that isn't sound. Nothing is a beginning too.
abbrev pub IsRecordsPart : {W : Type 0} → (W → Option (List ℕ)) → RecordForm → (image name : List ℕ) → W → W → Type 0
IsRecordsPart contents form image name old new =
    ((file : File) × IsRecordFile image name file
    × HandsPart (contents old) (contents new) (records_as form (records (sectors_in image) file)))
    ⊎ IsReachedPart contents form (sectors_in image) name old new

-- the bytes that can be reached of the first file of that name, and nothing else, were; and this fault is in the way of
-- more, or none is
pub record AreBytesPrinted {W : Type 0} (contents : W → Option (List ℕ)) (form : FileForm) (candidates : Candidates)
    (image name : List ℕ) (old new : W) (fault : Option Fault) : Type 0 where
  pub file : HasFile image (Any candidates) name fault
  pub printed : Appends (contents old) (contents new)
      (file_as form (file_bytes (sectors_in image) file.blocks file.last))

-- All of them were, and this file is cut short there, or isn't: where a check says so, or otherwise where its program goes
-- on past its end
abbrev pub AreDiskBytesTaken : {W : Type 0} → (W → Option (List ℕ)) → FileForm → Candidates → (image name : List ℕ) → W → W
    → Option Place → Type 0
AreDiskBytesTaken contents form candidates image name old new cut =
    (printed : AreBytesPrinted contents form candidates image name old new None) × (found : Option Place)
    × IsToldOfImage image (Some printed.file.number) found
    × (cut ≡ option_or found
    (past_end form (file_bytes (sectors_in image) printed.file.blocks printed.file.last) printed.file.blocks))
    × (found ≡ None → HasForm form (file_bytes (sectors_in image) printed.file.blocks printed.file.last))

-- what was printed of bytes that aren't all printed: nothing, or a beginning of those that can be reached
abbrev pub IsDiskBytesPart : {W : Type 0} → (W → Option (List ℕ)) → FileForm → Candidates → (image name : List ℕ) → W → W
    → Type 0
IsDiskBytesPart contents form candidates image name old new = (new ≡ old)
    ⊎ ((fault : Option Fault) × (file : HasFile image (Any candidates) name fault)
    × HandsPart (contents old) (contents new) (file_as form (file_bytes (sectors_in image) file.blocks file.last)))

-- the records among the bytes that can be reached of the first file of that name that has records, closed or not, and
-- nothing else, were; and this fault is in the way of more, or none is
pub record AreUnclosedPrinted {W : Type 0} (contents : W → Option (List ℕ)) (form : RecordForm) (image name : List ℕ)
    (old new : W) (fault : Option Fault) : Type 0 where
  pub file : HasFile image (Records All) name fault
  pub printed : Appends (contents old) (contents new) (records_as form
      (records_of (record_length file.slot) (file_bytes (sectors_in image) file.blocks file.last)))

-- all of them were, and this file is cut short there, or isn't
abbrev pub AreUnclosedTaken : {W : Type 0} → (W → Option (List ℕ)) → RecordForm → (image name : List ℕ) → W → W
    → Option Place → Type 0
AreUnclosedTaken contents form image name old new cut =
    (printed : AreUnclosedPrinted contents form image name old new None)
    × IsToldOfImage image (Some printed.file.number) cut

-- the same of records that may be unclosed: nothing, or a beginning of their lines
abbrev pub IsUnclosedPart : {W : Type 0} → (W → Option (List ℕ)) → RecordForm → (image name : List ℕ) → W → W → Type 0
IsUnclosedPart contents form image name old new = (new ≡ old)
    ⊎ ((fault : Option Fault) × (file : HasFile image (Records All) name fault)
    × HandsPart (contents old) (contents new) (records_as form
    (records_of (record_length file.slot) (file_bytes (sectors_in image) file.blocks file.last))))

-- Why not all of a file of that name and kind is printed. With a fault of the layout what can be reached is, as `Printed`
-- says. If the output failed, there is such a file
abbrev pub IsFileFault : {W : Type 0} → (image : List ℕ) → Kind → (name : List ℕ) → (Printed : Option Fault → Type 0)
    → W → W → CommandFault → Type 0
IsFileFault image kind name Printed old new faults.ImageSize = (length image ≢ 174848) × (new ≡ old)
IsFileFault image kind name Printed old new faults.NoMemory = (length image ≡ 174848) × (new ≡ old)
IsFileFault image kind name Printed old new (faults.Layout fault) =
    (HasNoFile image kind name (Some fault) × (new ≡ old)) ⊎ Printed (Some fault)
IsFileFault image kind name Printed old new faults.NoFile = HasNoFile image kind name None × (new ≡ old)
IsFileFault image kind name Printed old new faults.File = (fault : Option Fault) × HasFile image kind name fault
IsFileFault image kind name Printed old new _ = ⊥

-- all of them were, no check says that the file is cut short, and it hasn't the form in which it was printed
abbrev pub IsNoProgram : {W : Type 0} → (W → Option (List ℕ)) → FileForm → Candidates → (image name : List ℕ) → W → W
    → CommandFault → Type 0
IsNoProgram contents form candidates image name old new why = (why ≡ faults.NoProgram)
    × (printed : AreBytesPrinted contents form candidates image name old new None)
    × IsToldOfImage image (Some printed.file.number) None
    × ¬ (HasForm form (file_bytes (sectors_in image) printed.file.blocks printed.file.last))

-- why not all bytes of a file are printed, or they aren't those of a program
abbrev pub IsDiskBytesFault : {W : Type 0} → (W → Option (List ℕ)) → FileForm → Candidates → (image name : List ℕ) → W → W
    → CommandFault → Type 0
IsDiskBytesFault contents form candidates image name old new fault =
    IsNoProgram contents form candidates image name old new fault
    ⊎ IsFileFault image (Any candidates) name (AreBytesPrinted contents form candidates image name old new) old new fault

-- why not all records of a file that may be unclosed are
abbrev pub IsUnclosedFault : {W : Type 0} → (W → Option (List ℕ)) → RecordForm → (image name : List ℕ) → W → W
    → CommandFault → Type 0
IsUnclosedFault contents form image name old new fault = IsFileFault image (Records All) name
    (AreUnclosedPrinted contents form image name old new) old new fault

-- where a program that goes on past its end is cut short, if its file leaves track 35 there
abbrev pub past_left : FileForm → (file : List ℕ) → (left : Option Place) → Option Place
past_left (files.Bytes form) file left = None
past_left files.Listing file left = if is_ended file then None else left

-- the bytes of the first file of that name, which goes on past track 35, were printed, and nothing else; and if its program goes on past
-- its end, the file is cut short at its last block before it leaves track 35
pub record AreLongTaken {W : Type 0} (contents : W → Option (List ℕ)) (form : FileForm) (candidates : Candidates)
    (image name : List ℕ) (old new : W) (cut : Option Place) : Type 0 where
  pub sectors : List ℕ
  pub file : IsLongFile image (Any candidates) name sectors None
  pub printed : Appends (contents old) (contents new) (file_as form (data_of image sectors))
  pub cut_is : cut ≡ past_left form (data_of image sectors) (slice_get file.blocks (length file.blocks - 1))
  pub has_form : HasForm form (data_of image sectors)

-- why a file with these bytes wasn't printed, or isn't surely whole: for this reason beside its chain, or because no program was
-- listed; and what was printed
abbrev pub IsLongStop : {W : Type 0} → (W → Option (List ℕ)) → FileForm → (bytes : List ℕ) → (apart : Option Fault) → W → W
    → CommandFault → Type 0
IsLongStop contents form bytes apart old new faults.NoMemory = new ≡ old
IsLongStop contents form bytes apart old new (faults.Layout fault) =
    (apart ≡ Some fault) × Appends (contents old) (contents new) (file_as form bytes)
IsLongStop contents form bytes apart old new faults.NoProgram =
    (apart ≡ None) × Appends (contents old) (contents new) (file_as form bytes) × ¬ (HasForm form bytes)
IsLongStop contents form bytes apart old new faults.File = ⊤
IsLongStop contents form bytes apart old new _ = ⊥

-- the same of the first file of that name, which goes on past track 35; or the disk of the image wasn't loaded
abbrev pub IsLongFault : {W : Type 0} → (W → Option (List ℕ)) → FileForm → Candidates → (image name : List ℕ) → W → W
    → CommandFault → Type 0
IsLongFault contents form candidates image name old new fault =
    (IsLoadFault (disk_of image) fault × (new ≡ old))
    ⊎ ((sectors : List ℕ) × (apart : Option Fault) × IsLongFile image (Any candidates) name sectors apart
    × IsLongStop contents form (data_of image sectors) apart old new fault)

-- what was printed of it: nothing, or a beginning of its bytes
abbrev pub IsLongPart : {W : Type 0} → (W → Option (List ℕ)) → FileForm → Candidates → (image name : List ℕ) → W → W → Type 0
IsLongPart contents form candidates image name old new = (new ≡ old)
    ⊎ ((sectors : List ℕ) × (fault : Option Fault) × IsLongFile image (Any candidates) name sectors fault
    × HandsPart (contents old) (contents new) (file_as form (data_of image sectors)))

-- the bytes of the first file of that name were printed: of the disk of an image, or of all its tracks if the file goes on past track 35
abbrev pub AreBytesTaken : {W : Type 0} → (W → Option (List ℕ)) → FileForm → Candidates → (image name : List ℕ) → W → W
    → Option Place → Type 0
AreBytesTaken contents form candidates image name old new cut =
    (IsNoLongFile image (Any candidates) name × AreDiskBytesTaken contents form candidates (disk_of image) name old new cut)
    ⊎ AreLongTaken contents form candidates image name old new cut

-- why they weren't, or not surely all of them
abbrev pub IsBytesFault : {W : Type 0} → (W → Option (List ℕ)) → FileForm → Candidates → (image name : List ℕ) → W → W
    → CommandFault → Type 0
IsBytesFault contents form candidates image name old new fault =
    (IsNoLongFile image (Any candidates) name
    × IsDiskBytesFault contents form candidates (disk_of image) name old new fault)
    ⊎ IsLongFault contents form candidates image name old new fault

-- and what was
abbrev pub IsBytesPart : {W : Type 0} → (W → Option (List ℕ)) → FileForm → Candidates → (image name : List ℕ) → W → W → Type 0
IsBytesPart contents form candidates image name old new =
    IsDiskBytesPart contents form candidates (disk_of image) name old new
    ⊎ IsLongPart contents form candidates image name old new
