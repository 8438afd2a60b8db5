-- What isn't printed of the disk in an image, and why.
use Rattle.std.proofs.Common.{◌≡◌, ◌≢◌, ◌∙◌, Bool, List, ap, false, inl, inr, length, refl, subst, sym, take, true, ℕ}
use Rattle.std.specs.Prelude.{Option, if◌then◌else◌}
use Rattle.command_faults.specs.declared.faults.CommandFault.{CommandFault}
use Rattle.command_faults.specs.declared.faults.CommandFault.TheVariants as faults
use Rattle.damaged_files.proofs.lemmas.reached.Sized.{length-tracks}
use Rattle.damaged_files.specs.reached.Sizes.{IsImageSize, disk_of, is_image_size}
use Rattle.disk_layout.specs.declared.faults.Fault.{Fault}
use Rattle.disk_pictures.specs.Missing.{IsMissing, IsMissingFault}
use Rattle.disk_reports.specs.Listings.{IsCheckFault}
use Rattle.disk_reports.specs.Outcomes.{IsDescribeFault}
use Rattle.image_looks.specs.Reports.{IsReportFault, IsReported}
use Rattle.image_looks.specs.declared.reporting.Report.{Report}
use Rattle.image_looks.specs.declared.reporting.Report.TheVariants as reports

disk-size : (image : List ℕ) → IsImageSize (length image) → length (disk_of image) ≡ 174848
disk-size image is =
    ap (λ (b : Bool). length (if b then take 174848 image else image)) is ∙ length-tracks image is

other-size : (image : List ℕ) (b : Bool) → is_image_size (length image) ≡ b → ¬ (IsImageSize (length image))
    → length (if b then take 174848 image else image) ≢ 174848
other-size image true is none = absurd (none is)
other-size image false is none = λ eq. none (subst IsImageSize (sym eq) refl)

-- why it isn't known what isn't there is why nothing is printed
pub missing-why : (report : Report) (image : List ℕ) (fault : CommandFault) → IsMissingFault image fault
    → IsReportFault report (disk_of image) fault
missing-why reports.Verdict image faults.ImageSize why = other-size image _ refl why
missing-why reports.Among image faults.ImageSize why = other-size image _ refl why
missing-why reports.Faults image faults.ImageSize why = other-size image _ refl why
missing-why reports.Map image faults.ImageSize why = other-size image _ refl why
missing-why reports.Picture image faults.ImageSize why = other-size image _ refl why
missing-why reports.Poster image faults.ImageSize why = other-size image _ refl why
missing-why reports.Verdict image faults.NoMemory why = disk-size image why
missing-why reports.Among image faults.NoMemory why = disk-size image why
missing-why reports.Faults image faults.NoMemory why = disk-size image why
missing-why reports.Map image faults.NoMemory why = disk-size image why
missing-why reports.Picture image faults.NoMemory why = disk-size image why
missing-why reports.Poster image faults.NoMemory why = disk-size image why
missing-why report image _ why = absurd why

-- nor is it printed if there is no memory for the lines
pub memory-why : (report : Report) (image : List ℕ) → IsImageSize (length image)
    → IsReportFault report (disk_of image) faults.NoMemory
memory-why reports.Verdict image size = disk-size image size
memory-why reports.Among image size = disk-size image size
memory-why reports.Faults image size = disk-size image size
memory-why reports.Map image size = disk-size image size
memory-why reports.Picture image size = disk-size image size
memory-why reports.Poster image size = disk-size image size

-- an image of which that is known has one of the six sizes
pub missing-size : (image lines : List ℕ) → IsMissing image lines → IsImageSize (length image)
missing-size image lines (inl (size, none)) = subst IsImageSize (sym size) refl
missing-size image lines (inr (other, beside)) = beside.size

-- what isn't checked isn't described
pub check-why : (disk : List ℕ) (fault : CommandFault) → IsCheckFault disk fault → IsDescribeFault disk fault
check-why disk faults.ImageSize why = why
check-why disk faults.NoMemory why = why
check-why disk faults.File why = why
check-why disk _ why = absurd why

-- what was printed could be printed, so that only the output may have failed
pub output-why : {W : Type 0} (contents : W → Option (List ℕ)) (report : Report) (disk : List ℕ) (old new : W)
    (found : Option Fault) → IsReported contents report disk old new found → IsReportFault report disk faults.File
output-why contents reports.Verdict disk old new found is = is.0
output-why contents reports.Among disk old new found is = is.size
output-why contents reports.Faults disk old new found is = is.size
output-why contents reports.Map disk old new found (l, is) = (l, is.verdict, is.judged)
output-why contents reports.Picture disk old new found (l, is) = (l, is.verdict, is.judged)
output-why contents reports.Poster disk old new found (l, is) = (l, is.verdict, is.judged)
