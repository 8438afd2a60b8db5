-- What comes of an image on a contact sheet. Our own.
use Rattle.std.specs.Prelude.{◌≡◌, ◌≢◌, ◌⊎◌, ℕ, List, [], ◌∷◌, ◌++◌, Option, Some, None}
use Rattle.std.specs.Io.KnownBytes.{Appends}
use Rattle.damaged_files.specs.reached.Sizes.{disk_of}
use Rattle.disk_layout.specs.Layout.{Layout}
use Rattle.disk_layout.specs.declared.faults.Fault.{Fault}
use Rattle.command_faults.specs.Faults.{command_status, command_text}
use Rattle.disk_pictures.specs.Html.{html_of}
use Rattle.disk_pictures.specs.Outcomes.{IsDrawnAndJudged, IsPictureFault, map_in}
use Rattle.disk_pictures.specs.Petscii.{petscii_of}
use Rattle.disk_pictures.specs.Missing.{IsMissing}
use Rattle.disk_pictures.specs.Sheets.{refused_tile, tile_end, tile_text}
use Rattle.disk_pictures.specs.declared.verdicts.Verdict.{Verdict}
use Rattle.command_faults.specs.declared.faults.CommandFault.{CommandFault}
use Rattle.command_faults.specs.declared.faults.CommandFault.TheVariants as faults

-- the exit status for this result of a check, where these lines say what isn't on the disk
abbrev pub found_status : Option Fault → (lines : List ℕ) → ℕ
found_status (Some fault) lines = 1
found_status None [] = 0
found_status None (_ ∷ _) = 1

-- the disk in an image has a directory, and its tile, with what isn't on the disk, and nothing else, was passed to an output that held
-- `old` and holds `new`
pub record IsDrawnTile {W : Type 0} (contents : W → Option (List ℕ)) (path image : List ℕ) (old new : W) (status : ℕ) :
    Type 0 where
  pub layout : Layout
  pub verdict : Verdict
  pub lines : List ℕ
  pub judged : IsDrawnAndJudged (disk_of image) layout verdict
  pub missing : IsMissing image lines
  pub printed : Appends (contents old) (contents new)
      (tile_text html_of petscii_of path verdict (map_in (disk_of image)) layout ++ tile_end lines)
  pub status_is : status ≡ found_status verdict.found lines

-- the disk can't be drawn, for a reason that holds, and its tile, which has that reason, was passed to the output
pub record IsFaultTile {W : Type 0} (contents : W → Option (List ℕ)) (path image : List ℕ) (old new : W) (status : ℕ) :
    Type 0 where
  pub fault : CommandFault
  pub holds : IsPictureFault (disk_of image) fault
  pub other : fault ≢ faults.File
  pub printed : Appends (contents old) (contents new) (refused_tile html_of path (command_text fault))
  pub status_is : status ≡ command_status fault

-- the tile of an image was printed, with the exit status that `picture` has for this image
abbrev pub IsTilePrinted : {W : Type 0} → (W → Option (List ℕ)) → List ℕ → List ℕ → W → W → ℕ → Type 0
IsTilePrinted contents path image old new status =
    IsDrawnTile contents path image old new status ⊎ IsFaultTile contents path image old new status
