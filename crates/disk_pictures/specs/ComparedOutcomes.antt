-- What comes of comparing two images. Our own.
use Rattle.std.specs.Prelude.{◌≡◌, ◌⊎◌, List, ℕ, Option}
use Rattle.std.specs.Io.KnownBytes.{Appends}
use Rattle.d64_image.specs.Memory.{sectors_in}
use Rattle.disk_layout.specs.declared.faults.Fault.{Fault}
use Rattle.disk_pictures.specs.ComparedPages.{comparison_page}
use Rattle.disk_pictures.specs.Comparisons.{Disk}
use Rattle.disk_pictures.specs.Held.{drawn_in}
use Rattle.disk_pictures.specs.Outcomes.{IsDrawnAndJudged, IsPictureFault, map_in}
use Rattle.disk_pictures.specs.declared.comparison.compared.Compared.{Compared}
use Rattle.command_faults.specs.declared.faults.CommandFault.{CommandFault}

-- the disk is that of the image at a path: with its sectors, what is drawn of it and what is reported of it
pub record IsDiskOf (path image : List ℕ) (d : Disk) : Type 0 where
  pub path_is : d.path ≡ path
  pub image_is : d.image ≡ sectors_in image
  pub map_is : d.map ≡ map_in image
  pub judged : IsDrawnAndJudged image d.layout d.verdict

-- a disk as the code holds it
abbrev pub disk_in : Compared → Disk
disk_in d = record {
  path = d.path.now;
  image = d.sectors.now;
  map = d.drawing.map;
  layout = drawn_in d.drawing;
  verdict = d.verdict;
}

-- the comparison of the images at two paths, and nothing else, was passed to an output that held `old` and holds `new`; a
-- check of the second one reports this
pub record IsComparisonPrinted {W : Type 0} (contents : W → Option (List ℕ)) (before_path before after_path after : List ℕ)
    (old new : W) (found : Option Fault) : Type 0 where
  pub first : Disk
  pub is_first : IsDiskOf before_path before first
  pub second : Disk
  pub is_second : IsDiskOf after_path after second
  pub printed : Appends (contents old) (contents new) (comparison_page first second)
  pub found_is : found ≡ second.verdict.found

-- why two images aren't compared: why one of them isn't drawn
abbrev pub IsComparisonFault : List ℕ → List ℕ → CommandFault → Type 0
IsComparisonFault before after fault = IsPictureFault before fault ⊎ IsPictureFault after fault
