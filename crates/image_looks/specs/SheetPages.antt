-- What comes of images that are drawn on a contact sheet. All of it is our own.
use Rattle.std.specs.Prelude.{◌≡◌, ℕ, List, Option, Ok, Err, length}
use Rattle.std.specs.Io.KnownBytes.{Appends}
use Rattle.disk_pictures.specs.Html.{html_of}
use Rattle.disk_pictures.specs.Sheets.{refused_tile, sheet_end, sheet_head}
use Rattle.disk_pictures.specs.Tiles.{IsTilePrinted}
use Rattle.image_looks.specs.EachImage.{AreEach, Loaded}
use Rattle.command_faults.specs.Faults.{command_status, command_text}
use Rattle.command_faults.specs.declared.faults.CommandFault.{CommandFault}

-- the tile of an image at this path that couldn't be read was printed: it has why
abbrev pub IsUnreadTile : {W : Type 0} → (W → Option (List ℕ)) → List ℕ → CommandFault → W → W → ℕ → Type 0
IsUnreadTile contents path refusal old new status =
    Appends (contents old) (contents new) (refused_tile html_of path (html_of (command_text refusal)))
    × (status ≡ command_status refusal)

-- one tile was printed, that of the image at this path of which this was read
abbrev pub IsTileOf : {W : Type 0} → (W → Option (List ℕ)) → List ℕ → Loaded → W → W → ℕ → Type 0
IsTileOf contents path (Ok image) old new status = IsTilePrinted contents path image old new status
IsTileOf contents path (Err refusal) old new status = IsUnreadTile contents path refusal old new status

-- the sheet of the images at these paths was printed, whole, of what the source gave at each
pub record IsSheetPrinted {W : Type 0} (gives : List ℕ → Loaded → Type 0) (contents : W → Option (List ℕ))
    (paths : List (List ℕ)) (old new : W) (greatest : ℕ) : Type 0 where
  pub begun : W
  pub tiled : W
  pub beginning : Appends (contents old) (contents begun) (sheet_head (length paths))
  pub tiles : AreEach gives (IsTileOf contents) paths begun tiled greatest
  pub end : Appends (contents tiled) (contents new) sheet_end
