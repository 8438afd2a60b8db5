-- What comes of a look at an image: what it prints, and why it doesn't. All of it is our own.
use Rattle.std.specs.Prelude.{◌⊎◌, ◌≡◌, ℕ, List, None, Option, Some, Result, Ok, Err}
use Rattle.d64_image.specs.declared.place.Place.{Place}
use Rattle.disk_layout.specs.declared.faults.Fault.{Fault}
use Rattle.disk_pictures.specs.Views.{AreFreePrinted, IsSectorPrinted, IsViewFault}
use Rattle.disk_reports.specs.AllFaults.{AreListed}
use Rattle.disk_reports.specs.Listings.{IsCheckFault, IsListFault, IsListed}
use Rattle.damaged_files.specs.reached.Sizes.{disk_of}
use Rattle.disk_reports.specs.Outcomes.{IsDescribeFault}
use Rattle.file_rescues.specs.LongRecords.{AreRecordsOut, WhyNotOut}
use Rattle.file_rescues.specs.Printed.{AreBytesTaken, IsBytesFault, IsBytesPart}
use Rattle.file_rescues.specs.declared.finding.Candidates.{Candidates}
use Rattle.file_rescues.specs.declared.forms.FileForm.{FileForm}
use Rattle.shop_commands.specs.Shops.{IsShowFault, IsShown}
use Rattle.image_log.specs.life.Tags.{SaysLogAway}
use Rattle.command_faults.specs.declared.faults.CommandFault.{CommandFault}
use Rattle.opened_files.specs.Ends.{JobEnd, IsPrintEnd, IsQuietPrint}
use Rattle.opened_files.specs.Losses.{IsAwayEnd, IsNear}
use Rattle.file_changes.specs.Names.{name_bytes}
use Rattle.damaged_files.specs.declared.sides.planning.Loss.{Loss}
use Rattle.image_looks.specs.Reports.{IsChecked, IsReportEnd}
use Rattle.image_looks.specs.declared.reporting.Report.TheVariants as reports
use Rattle.image_looks.specs.declared.kinds.DiskLook.{DiskLook}
use Rattle.image_looks.specs.declared.kinds.DiskLook.TheVariants as disks
use Rattle.image_looks.specs.declared.kinds.Look.{Look}
use Rattle.image_looks.specs.declared.kinds.Look.TheVariants as looks
use Rattle.command_faults.specs.declared.faults.CommandFault.TheVariants as faults

-- how it ended that a file was taken out: it is all there is of it, or it is cut short there
abbrev pub taken_end : Result (Option Place) CommandFault → JobEnd
taken_end (Ok None) = Ok None
taken_end (Ok (Some p)) = Err (faults.Short p)
taken_end (Err fault) = Err fault

-- a file was taken out of an image, and this file is cut short there, or isn't; or it wasn't
abbrev pub IsTakingEnd : {W : Type 0} → (Taken : W → W → Option Place → Type 0) → (Why : W → W → CommandFault → Type 0)
    → W → W → JobEnd → Type 0
IsTakingEnd Taken Why old new (Ok None) = Taken old new None
IsTakingEnd Taken Why old new (Ok (Some found)) = ⊥
IsTakingEnd Taken Why old new (Err (faults.Short p)) = Taken old new (Some p)
IsTakingEnd Taken Why old new (Err fault) = Why old new fault

module _ {W : Type 0} (contents : W → Option (List ℕ)) where
  -- why the bytes of a file weren't printed, or not surely all of them, and what was printed then
  abbrev pub WhyNoBytes : FileForm → Candidates → (image name : List ℕ) → W → W → CommandFault → Type 0
  WhyNoBytes form candidates image name old new fault =
      IsBytesFault contents form candidates image name old new fault
      × IsBytesPart contents form candidates image name old new

  -- what it holds of a shop was printed, unless its log has the rest and that loss isn't accepted
  abbrev pub IsShowEnd : Loss → (image : List ℕ) → W → W → JobEnd → Type 0
  IsShowEnd loss image old new end = IsAwayEnd loss (SaysLogAway image) old new end
      ⊎ (IsNear loss image × IsQuietPrint (IsShown contents image) (IsShowFault image) old new end)

  -- a look at the disk in an image ended so
  abbrev pub IsAsIs : DiskLook → (image : List ℕ) → W → W → JobEnd → Type 0
  IsAsIs (disks.List form) image old new end =
      IsQuietPrint (IsListed contents form (disk_of image)) (IsListFault (disk_of image)) old new end
  IsAsIs disks.Check image old new end = IsReportEnd contents reports.Verdict image old new end
  IsAsIs disks.Faults image old new end = IsReportEnd contents reports.Faults image old new end
  IsAsIs (disks.Show loss) image old new end = IsShowEnd loss (disk_of image) old new end

  -- a look at an image ended so
  abbrev pub IsLook : Look → (image : List ℕ) → W → W → JobEnd → Type 0
  IsLook (looks.List form) image old new end = IsQuietPrint (IsListed contents form image) (IsListFault image) old new end
  IsLook looks.Check image old new end = IsPrintEnd (IsChecked contents image) (IsCheckFault image) old new end
  IsLook looks.Faults image old new end = IsPrintEnd (AreListed contents image) (IsDescribeFault image) old new end
  IsLook (looks.Show loss) image old new end = IsShowEnd loss image old new end
  IsLook (looks.AsIs what) image old new end = IsAsIs what image old new end
  IsLook looks.Map image old new end = IsReportEnd contents reports.Map image old new end
  IsLook looks.Picture image old new end = IsReportEnd contents reports.Picture image old new end
  IsLook looks.Poster image old new end = IsReportEnd contents reports.Poster image old new end
  IsLook looks.Free image old new end = IsQuietPrint (AreFreePrinted contents image) (IsViewFault image) old new end
  IsLook (looks.Sector p) image old new end =
      IsQuietPrint (IsSectorPrinted contents image p) (IsViewFault image) old new end
  IsLook (looks.Records form candidates name) image old new end =
      IsTakingEnd (AreRecordsOut contents form candidates image (name_bytes name))
      (WhyNotOut contents form candidates image (name_bytes name)) old new end
  IsLook (looks.Bytes form candidates name) image old new end =
      IsTakingEnd (AreBytesTaken contents form candidates image (name_bytes name))
      (WhyNoBytes form candidates image (name_bytes name)) old new end
