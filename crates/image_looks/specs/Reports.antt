-- What is printed of the disk in an image, and what isn't on that disk. Our own.
use Rattle.std.specs.Prelude.{◌⊎◌, ◌≡◌, ◌≢◌, ℕ, Bool, List, [], ◌∷◌, ◌++◌, None, Option, Some, Ok, Err, false, if◌then◌else◌, length, true}
use Rattle.std.specs.Io.KnownBytes.{Appends}
use Rattle.command_faults.specs.declared.faults.CommandFault.{CommandFault}
use Rattle.command_faults.specs.declared.faults.CommandFault.TheVariants as faults
use Rattle.d64_image.specs.Memory.{sectors_in}
use Rattle.damaged_files.specs.reached.Sizes.{disk_of}
use Rattle.disk_layout.specs.Clean.{IsVerdict}
use Rattle.disk_layout.specs.declared.faults.Fault.{Fault}
use Rattle.disk_pictures.specs.Missing.{IsMissing, missing_block}
use Rattle.disk_pictures.specs.Outcomes.{IsMapPrinted, IsPictureFault, IsPicturePrinted, IsPosterPrinted}
use Rattle.disk_pictures.specs.Posters.{poster_end}
use Rattle.disk_reports.specs.AllFaults.{AreListed}
use Rattle.disk_reports.specs.Outcomes.{IsCheckedAmong, IsDescribeFault}
use Rattle.disk_reports.specs.Texts.{verdict_text}
use Rattle.image_looks.specs.WiderMaps.{maps_text}
use Rattle.image_looks.specs.declared.reporting.Report.{Report}
use Rattle.image_looks.specs.declared.reporting.Report.TheVariants as reports
use Rattle.opened_files.specs.Ends.{JobEnd}

-- the fault that a check finds; with none, `Trimmed` if a line says that something isn't on the disk
abbrev pub reported_end : Option Fault → (lines : List ℕ) → JobEnd
reported_end (Some fault) lines = Ok (Some fault)
reported_end None [] = Ok None
reported_end None (_ ∷ _) = Err faults.Trimmed

-- it is a page
abbrev pub on_page : Report → Bool
on_page reports.Picture = true
on_page _ = false

-- it is a poster
abbrev pub on_poster : Report → Bool
on_poster reports.Poster = true
on_poster _ = false

-- the lines as they are printed: on a page as HTML, on a poster as a sentence before its end, and in text with these after them
abbrev pub told_as : Report → (lines maps : List ℕ) → List ℕ
told_as report lines maps =
    if on_page report then missing_block lines else (if on_poster report then poster_end lines else lines ++ maps)

-- why this isn't printed of a disk
abbrev pub IsReportFault : Report → (disk : List ℕ) → CommandFault → Type 0
IsReportFault reports.Map disk fault = IsPictureFault disk fault
IsReportFault reports.Picture disk fault = IsPictureFault disk fault
IsReportFault reports.Poster disk fault = IsPictureFault disk fault
IsReportFault _ disk fault = IsDescribeFault disk fault

module _ {W : Type 0} (contents : W → Option (List ℕ)) where
  -- the verdict of a check was printed
  abbrev pub IsChecked : (image : List ℕ) → W → W → Option Fault → Type 0
  IsChecked image old new found = (length image ≡ 174848) × IsVerdict (sectors_in image) found
      × Appends (contents old) (contents new) (verdict_text found)

  -- this was printed of a disk, of which a check finds this
  abbrev pub IsReported : Report → (disk : List ℕ) → W → W → Option Fault → Type 0
  IsReported reports.Verdict disk old new found = IsChecked disk old new found
  IsReported reports.Among disk old new found = IsCheckedAmong contents disk old new found
  IsReported reports.Faults disk old new found = AreListed contents disk old new found
  IsReported reports.Map disk old new found = IsMapPrinted contents disk old new found
  IsReported reports.Picture disk old new found = IsPicturePrinted contents disk old new found
  IsReported reports.Poster disk old new found = IsPosterPrinted contents disk old new found

  -- This was printed of the disk in an image, and after it the lines of what isn't on that disk, and of maps of more tracks.
  pub record IsReportedWith (report : Report) (image : List ℕ) (old new : W) (end : JobEnd) : Type 0 where
    pub found : Option Fault
    pub lines : List ℕ
    pub between : W
    pub disk : IsReported report (disk_of image) old between found
    pub missing : IsMissing image lines
    pub told : Appends (contents between) (contents new) (told_as report lines (maps_text image))
    pub ended : end ≡ reported_end found lines

  -- that, or why it wasn't, and unless the output failed nothing was printed
  abbrev pub IsReportEnd : Report → (image : List ℕ) → W → W → JobEnd → Type 0
  IsReportEnd report image old new end = IsReportedWith report image old new end
      ⊎ ((fault : CommandFault) × (end ≡ Err fault) × IsReportFault report (disk_of image) fault
      × (fault ≢ faults.File → new ≡ old))
