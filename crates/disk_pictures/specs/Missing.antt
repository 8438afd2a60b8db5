-- What an image says of itself besides its disk, in lines. Our own.
use Rattle.std.specs.Prelude.{◌≡◌, ◌≢◌, ◌⊎◌, ℕ, List, [], ◌++◌, None, Option, Some, codes, flat_map, length, take}
use Rattle.d64_image.specs.Memory.{sectors_in}
use Rattle.disk_layout.specs.Fault.{HoldsOfDirectory, nowhere}
use Rattle.disk_layout.specs.Layout.{Layout}
use Rattle.disk_layout.specs.declared.faults.Fault.{Fault}
use Rattle.damaged_files.specs.reached.Sizes.{IsImageSize}
use Rattle.disk_pictures.specs.Drawings.{IsDrawn}
use Rattle.disk_pictures.specs.Html.{escaped}
use Rattle.disk_pictures.specs.PastErrors.{misread_text}
use Rattle.disk_pictures.specs.Trims.{file_text}
use Rattle.command_faults.specs.declared.faults.CommandFault.{CommandFault}
use Rattle.command_faults.specs.declared.faults.CommandFault.TheVariants as faults

-- the lines of the files that go on past track 35, if they are drawn
abbrev pub past_text : List ℕ → Option Layout → List ℕ
past_text image None = []
past_text image (Some l) = flat_map (file_text image) l.files

-- a line for each sector that wasn't read, and for each past track 35 that several files have, and then these
abbrev pub missing_text : List ℕ → Option Layout → List ℕ
missing_text image drawn = misread_text image drawn ++ past_text image drawn

-- this is drawn of the image's first 35 tracks; nothing, if a fault holds of their directory
abbrev pub IsDrawnOf : List ℕ → Option Layout → Type 0
IsDrawnOf image (Some l) = IsDrawn (sectors_in (take 174848 image)) l
IsDrawnOf image None = (fault : Fault) × HoldsOfDirectory nowhere (sectors_in (take 174848 image)) fault

-- these lines say what isn't on the disk in an image of one of the six sizes
pub record IsMissingBeside (image lines : List ℕ) : Type 0 where
  pub size : IsImageSize (length image)
  pub drawn : Option Layout
  pub is_drawn : IsDrawnOf image drawn
  pub is : lines ≡ missing_text image drawn

-- the same, but there is no line if the image is a disk alone
abbrev pub IsMissing : (image lines : List ℕ) → Type 0
IsMissing image lines = ((length image ≡ 174848) × (lines ≡ []))
    ⊎ ((length image ≢ 174848) × IsMissingBeside image lines)

-- these lines say which of its sectors weren't read, and which past track 35 several files have
pub record IsMisreadBeside (image lines : List ℕ) : Type 0 where
  pub size : IsImageSize (length image)
  pub drawn : Option Layout
  pub is_drawn : IsDrawnOf image drawn
  pub is : lines ≡ misread_text image drawn

abbrev pub IsMisread : (image lines : List ℕ) → Type 0
IsMisread image lines = ((length image ≡ 174848) × (lines ≡ []))
    ⊎ ((length image ≢ 174848) × IsMisreadBeside image lines)

-- why it isn't said: the size is none of the six, or memory
abbrev pub IsMissingFault : List ℕ → CommandFault → Type 0
IsMissingFault image faults.ImageSize = ¬ (IsImageSize (length image))
IsMissingFault image faults.NoMemory = IsImageSize (length image)
IsMissingFault image _ = ⊥

-- the lines on a page: below a heading, if there are any
abbrev pub missing_block : List ℕ → List ℕ
missing_block [] = []
missing_block lines = codes "<h2>Not on the disk of 35 tracks</h2>\n<pre>" ++ (flat_map escaped lines ++ codes "</pre>\n")
