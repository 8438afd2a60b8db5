-- What comes of drawing an image, and why it isn't drawn. Our own.
use Rattle.std.specs.Prelude.{◌≡◌, ◌≢◌, ◌≤◌, List, ℕ, None, Option, length}
use Rattle.std.specs.Io.KnownBytes.{Appends}
use Rattle.d64_image.specs.Images.{Sector, sector}
use Rattle.d64_image.specs.Memory.{sectors_in}
use Rattle.damaged_files.specs.cut.Told.{IsToldOfImage}
use Rattle.disk_layout.specs.Clean.{IsVerdict}
use Rattle.disk_layout.specs.Directory.{map_place}
use Rattle.disk_layout.specs.Fault.{HoldsOfDirectory, nowhere}
use Rattle.disk_layout.specs.Layout.{Layout}
use Rattle.disk_layout.specs.declared.faults.Fault.{Fault}
use Rattle.disk_pictures.specs.Drawings.{IsDrawn}
use Rattle.disk_pictures.specs.Held.{drawn_in}
use Rattle.disk_pictures.specs.Maps.{map_text}
use Rattle.disk_pictures.specs.Pictures.{picture_page}
use Rattle.disk_pictures.specs.Posters.{poster_of}
use Rattle.disk_pictures.specs.declared.drawing.Drawing.{Drawing}
use Rattle.disk_pictures.specs.declared.verdicts.Verdict.{Verdict}
use Rattle.command_faults.specs.declared.faults.CommandFault.{CommandFault}
use Rattle.command_faults.specs.declared.faults.CommandFault.TheVariants as faults

-- the 18/0 of an image
abbrev pub map_in : List ℕ → Sector
map_in image = sector (sectors_in image) map_place

-- the image has the size of a disk and a directory; this is drawn of it; and a check reports this fault, or the first file
-- that is cut short ends here
pub record IsDrawnAndJudged (image : List ℕ) (l : Layout) (v : Verdict) : Type 0 where
  pub size : length image ≡ 174848
  pub drawn : IsDrawn (sectors_in image) l
  pub verdict : IsVerdict (sectors_in image) v.found
  pub cut : IsToldOfImage image None v.cut
  pub few : length l.files ≤ 144

-- this holds of a drawing as the code holds it
pub record IsJudged (image : List ℕ) (drawing : Drawing) (v : Verdict) : Type 0 where
  pub judged : IsDrawnAndJudged image (drawn_in drawing) v
  pub map : drawing.map ≡ map_in image

-- this text of the image and of what is drawn of it, and nothing else, was passed to an output that held `old` and holds
-- `new`
pub record IsDrawnAs {W : Type 0} (contents : W → Option (List ℕ)) (text : Verdict → Sector → Layout → List ℕ)
    (image : List ℕ) (l : Layout) (old new : W) (found : Option Fault) : Type 0 where
  pub verdict : Verdict
  pub judged : IsDrawnAndJudged image l verdict
  pub found_is : found ≡ verdict.found
  pub printed : Appends (contents old) (contents new) (text verdict (map_in image) l)

-- the map of the image was printed
abbrev pub IsMapPrinted : {W : Type 0} → (W → Option (List ℕ)) → List ℕ → W → W → Option Fault → Type 0
IsMapPrinted contents image old new found = (l : Layout) × IsDrawnAs contents map_text image l old new found

-- its picture was printed
abbrev pub IsPicturePrinted : {W : Type 0} → (W → Option (List ℕ)) → List ℕ → W → W → Option Fault → Type 0
IsPicturePrinted contents image old new found = (l : Layout) × IsDrawnAs contents picture_page image l old new found

-- its poster was printed
abbrev pub IsPosterPrinted : {W : Type 0} → (W → Option (List ℕ)) → List ℕ → W → W → Option Fault → Type 0
IsPosterPrinted contents image old new found = (l : Layout) × IsDrawnAs contents poster_of image l old new found

-- the image has a directory, and is drawn
abbrev pub IsDrawable : List ℕ → Type 0
IsDrawable image = (l : Layout) × (v : Verdict) × IsDrawnAndJudged image l v

-- why an image isn't drawn; if the output failed, it could be drawn
abbrev pub IsPictureFault : List ℕ → CommandFault → Type 0
IsPictureFault image faults.ImageSize = length image ≢ 174848
IsPictureFault image faults.NoMemory = length image ≡ 174848
IsPictureFault image (faults.Layout fault) = (length image ≡ 174848) × HoldsOfDirectory nowhere (sectors_in image) fault
IsPictureFault image faults.File = IsDrawable image
IsPictureFault image _ = ⊥
