-- What `list` and `check` find of an image.
use Rattle.std.specs.Prelude.{◌≡◌, ◌≢◌, ℕ, List, Option, length}
use Rattle.std.specs.Io.KnownBytes.{Appends}
use Rattle.d64_image.specs.Images.{sector}
use Rattle.d64_image.specs.Memory.{sectors_in}
use Rattle.d64_image.specs.declared.place.Place.{Place}
use Rattle.disk_layout.specs.Directory.{IsDirectory, map_place}
use Rattle.disk_layout.specs.Fault.{HoldsOfDirectory, nowhere}
use Rattle.disk_layout.specs.declared.slot.Slot.{Slot}
use Rattle.disk_reports.specs.Texts.{listing}
use Rattle.command_faults.specs.Faults.{IsLoadFault}
use Rattle.command_faults.specs.declared.faults.CommandFault.{CommandFault}
use Rattle.disk_reports.specs.declared.texts.NameForm.{NameForm}
use Rattle.command_faults.specs.declared.faults.CommandFault.TheVariants as faults

-- the image's directory, of an image that has the size of a disk
pub record HasDirectory (image : List ℕ) : Type 0 where
  pub size : length image ≡ 174848
  pub sectors : List Place
  pub entries : List Slot
  pub directory : IsDirectory (sectors_in image) sectors entries

-- the image was listed on an output that held `old` and holds `new`: it has a directory, and its listing was handed
-- over
pub record IsListed {W : Type 0} (contents : W → Option (List ℕ)) (form : NameForm) (image : List ℕ) (old new : W)
    : Type 0
  where
    pub listed : HasDirectory image
    pub printed : Appends (contents old) (contents new)
        (listing form (sector (sectors_in image) map_place) listed.entries)

-- why an image isn't listed: its size, a fault of its directory that holds, the output, or memory
abbrev pub IsListFault : List ℕ → CommandFault → Type 0
IsListFault image faults.ImageSize = length image ≢ 174848
IsListFault image (faults.Layout fault) = (length image ≡ 174848) × HoldsOfDirectory nowhere (sectors_in image) fault
IsListFault image faults.File = HasDirectory image
IsListFault image faults.NoMemory = length image ≡ 174848
IsListFault image _ = ⊥

-- why an image isn't checked: its size, the output, or memory
abbrev pub IsCheckFault : List ℕ → CommandFault → Type 0
IsCheckFault image faults.File = length image ≡ 174848
IsCheckFault image fault = IsLoadFault image fault
