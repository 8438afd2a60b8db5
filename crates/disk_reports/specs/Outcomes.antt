-- What comes of describing an image. Our own.
use Rattle.std.specs.Prelude.{◌≡◌, ◌≢◌, ◌⊎◌, ℕ, List, [], ◌∷◌, ◌++◌, None, Option, Some, codes, length}
use Rattle.std.specs.Io.KnownBytes.{Appends}
use Rattle.d64_image.specs.Images.{Image, sector}
use Rattle.d64_image.specs.Memory.{sectors_in}
use Rattle.d64_image.specs.declared.place.Place.{Place}
use Rattle.damaged_files.specs.cut.Told.{IsShortfallOf, IsToldOfImage}
use Rattle.damaged_files.specs.declared.cut.shortfalls.Shortfall.{Shortfall}
use Rattle.disk_layout.specs.Clean.{IsVerdict}
use Rattle.disk_layout.specs.Directory.{IsDirectory, map_place}
use Rattle.disk_layout.specs.Fault.{HoldsOfDirectory, nowhere}
use Rattle.disk_layout.specs.declared.faults.Fault.{Fault}
use Rattle.disk_layout.specs.declared.slot.Slot.{Slot}
use Rattle.disk_layout.specs.Texts.{place_text}
use Rattle.disk_reports.specs.Rows.{row_text}
use Rattle.disk_reports.specs.Texts.{verdict_text}
use Rattle.disk_reports.specs.Trails.{IsTrail, Shows}
use Rattle.command_faults.specs.declared.faults.CommandFault.{CommandFault}
use Rattle.command_faults.specs.declared.faults.CommandFault.TheVariants as faults
use Rattle.disk_reports.specs.declared.trail.Trail.{Trail}

-- what the links of the entry come to shows the fault, or has the sector at which it is
abbrev pub IsConcerned : Image → Fault → Slot → Type 0
IsConcerned img fault s = (t : Trail) × IsTrail img t × (t.slot ≡ s) × Shows t fault

-- it doesn't
abbrev pub IsUnconcerned : Image → Fault → Slot → Type 0
IsUnconcerned img fault s = (t : Trail) × IsTrail img t × (t.slot ≡ s) × ¬ (Shows t fault)

-- these are the entries among those first named that the fault concerns, in their order
abbrev pub AreConcerned : Image → Fault → List Slot → List Slot → Type 0
AreConcerned img fault [] files = files ≡ []
AreConcerned img fault (s ∷ ss) files =
    (IsConcerned img fault s × ((rest : List Slot) × (files ≡ s ∷ rest) × AreConcerned img fault ss rest))
    ⊎ (IsUnconcerned img fault s × AreConcerned img fault ss files)

-- these are the entries of the image that the fault concerns; none if the directory's chain has a fault itself
abbrev pub AreFilesOf : Image → Fault → List Slot → Type 0
AreFilesOf img fault files =
    ((ps : List Place) × (slots : List Slot) × IsDirectory img ps slots × AreConcerned img fault slots files)
    ⊎ (((broken : Fault) × HoldsOfDirectory nowhere img broken) × (files ≡ []))

-- and none if there is no fault
abbrev pub AreFound : Image → Option Fault → List Slot → Type 0
AreFound img None files = files ≡ []
AreFound img (Some fault) files = AreFilesOf img fault files

-- The image was described on an output that held `old` and holds `new`: by the row of what a check finds, of what its
-- files lack, and of its hashes.
pub record IsDescribed {W : Type 0} (contents : W → Option (List ℕ)) (name image : List ℕ)
    (old new : W) (found : Option Fault) : Type 0 where
  pub size : length image ≡ 174848
  pub verdict : IsVerdict (sectors_in image) found
  pub lack : Option Shortfall
  pub lacks : IsShortfallOf (sectors_in image) lack
  pub printed : Appends (contents old) (contents new) (row_text name found (sector (sectors_in image) map_place) lack image)

-- the line of the first file that is cut short
abbrev pub cut_line : Option Place → List ℕ
cut_line None = []
cut_line (Some p) = codes "SHORT " ++ (place_text p ++ codes "\n")

-- the verdict of a check of the image was printed on an output that held `old` and holds `new`, and then where its first
-- file is cut short, if one is
pub record IsCheckedAmong {W : Type 0} (contents : W → Option (List ℕ)) (image : List ℕ) (old new : W)
    (found : Option Fault) : Type 0 where
  pub size : length image ≡ 174848
  pub verdict : IsVerdict (sectors_in image) found
  pub cut : Option Place
  pub short : IsToldOfImage image None cut
  pub printed : Appends (contents old) (contents new) (verdict_text found ++ cut_line cut)

-- why an image isn't described: its size, memory, or the output
abbrev pub IsDescribeFault : List ℕ → CommandFault → Type 0
IsDescribeFault image faults.ImageSize = length image ≢ 174848
IsDescribeFault image faults.NoMemory = length image ≡ 174848
IsDescribeFault image faults.File = length image ≡ 174848
IsDescribeFault image _ = ⊥
