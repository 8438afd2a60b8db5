-- What comes of one image of several. All of it is our own.
use Rattle.std.specs.Prelude.{◌≡◌, ◌≢◌, ◌++◌, ℕ, List, [], Option, Some, Ok, Err, Vec, vec_items}
use Rattle.std.specs.declared.alloc.Global.{Global}
use Rattle.std.specs.Io.KnownBytes.{Appends}
use Rattle.image_looks.specs.EachImage.{Loaded}
use Rattle.disk_reports.specs.Listings.{IsCheckFault}
use Rattle.disk_reports.specs.Outcomes.{IsCheckedAmong}
use Rattle.opened_files.specs.Ends.{IsPrintEnd, JobEnd, end_line, end_status}
use Rattle.image_looks.specs.Looks.{IsLook}
use Rattle.image_looks.specs.Reports.{IsReportEnd}
use Rattle.image_looks.specs.declared.reporting.Report.TheVariants.{Among}
use Rattle.image_looks.specs.declared.kinds.DiskLook.TheVariants as disks
use Rattle.image_looks.specs.declared.kinds.Look.{Look}
use Rattle.image_looks.specs.declared.kinds.Look.TheVariants as looks
use Rattle.line_text.specs.Named.{named}

-- a text, and the line that reports this end, were printed with a name before each line; the end's status is this
pub record IsToldAs {W : Type 0} (contents : W → Option (List ℕ)) (name text : List ℕ) (end : JobEnd) (old new : W)
    (status : ℕ) : Type 0 where
  pub told : Appends (contents old) (contents new) (named name (text ++ end_line end))
  pub status_is : status ≡ end_status end

-- what is asked of one image of several ended so: a look at it alone; or a check that also says where a file is cut short
abbrev pub IsAmong : {W : Type 0} → (W → Option (List ℕ)) → Look → (image : List ℕ) → W → W → JobEnd → Type 0
IsAmong contents what image old new end =
    (what ≡ looks.Check → IsPrintEnd (IsCheckedAmong contents image) (IsCheckFault image) old new end)
    × (what ≡ looks.AsIs disks.Check → IsReportEnd contents Among image old new end)
    × (what ≢ looks.Check → what ≢ looks.AsIs disks.Check → IsLook contents what image old new end)

-- An image was one of several: over an output that held nothing, this text was printed of it, and it ended so.
pub record IsOneOfSeveral {W : Type 0} (contents : W → Option (List ℕ)) (what : Look) (name image : List ℕ)
    (old new : W) (status : ℕ) : Type 0 where
  pub before : Vec ℕ Global
  pub after : Vec ℕ Global
  pub empty : vec_items before ≡ []
  pub end : JobEnd
  pub alone : IsAmong (λ text. Some (vec_items text)) what image before after end
  pub told : IsToldAs contents name (vec_items after) end old new status

-- what is asked of an image at this path, from which this was read, was printed, each line after a name
abbrev pub IsOverviewOf : {W : Type 0} → (W → Option (List ℕ)) → Look → List ℕ → Loaded → W → W → ℕ → Type 0
IsOverviewOf contents what path (Ok image) old new status =
    (name : List ℕ) × IsOneOfSeveral contents what name image old new status
IsOverviewOf contents what path (Err refusal) old new status =
    (name : List ℕ) × IsToldAs contents name [] (Err refusal) old new status
