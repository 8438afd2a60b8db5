-- The directory of an image as an object of JSON. What its members are called is our own.
use Rattle.std.specs.Prelude.{◌≡◌, ◌≢◌, ℕ, List, Option, codes, length, map, slice_range}
use Rattle.d64_image.specs.Images.{Sector, sector}
use Rattle.d64_image.specs.Memory.{sectors_in}
use Rattle.d64_image.specs.declared.place.Place.{Place}
use Rattle.disk_layout.specs.Directory.{IsDirectory, map_place}
use Rattle.disk_layout.specs.Fault.{HoldsOfDirectory, nowhere}
use Rattle.disk_layout.specs.View.{blocks_free}
use Rattle.disk_layout.specs.declared.slot.Slot.{Slot}
use Rattle.damaged_files.specs.reached.Names.{disk_name}
use Rattle.command_faults.specs.declared.faults.CommandFault.{CommandFault}
use Rattle.command_faults.specs.declared.faults.CommandFault.TheVariants as faults
use Rattle.json_looks.specs.Entries.{entry_data, typed}
use Rattle.json_looks.specs.Objects.{IsObjectPrinted, count}
use Rattle.serde_json.specs.Data.{Data, array, member, no_members, null, object, string}
use Rattle.serde_json.specs.View.{items_of}

-- an image of this name: what 18/0 says of its disk, and its entries
abbrev pub list_data : (name : List ℕ) → Sector → List Slot → Data
list_data name bytes entries =
    object (member (codes "disk") (typed (disk_name bytes))
    (member (codes "dos_type") (typed (slice_range bytes 165 167))
    (member (codes "entries") (array (items_of (map entry_data entries)))
    (member (codes "free") (count (blocks_free bytes))
    (member (codes "id") (typed (slice_range bytes 162 164))
    (member (codes "name") (string name)
    (member (codes "refused") null no_members)))))))

-- the directory of an image was printed as such an object
pub record IsListed {W : Type 0} (contents : W → Option (List ℕ)) (name image : List ℕ) (old new : W) : Type 0 where
  pub size : length image ≡ 174848
  pub sectors : List Place
  pub entries : List Slot
  pub directory : IsDirectory (sectors_in image) sectors entries
  pub printed : IsObjectPrinted contents (list_data name (sector (sectors_in image) map_place) entries) old new

-- why it wasn't: the image's size, a fault of its directory that holds, the output, or memory
abbrev pub IsListFault : List ℕ → CommandFault → Type 0
IsListFault image faults.ImageSize = length image ≢ 174848
IsListFault image (faults.Layout fault) = (length image ≡ 174848) × HoldsOfDirectory nowhere (sectors_in image) fault
IsListFault image faults.File = length image ≡ 174848
IsListFault image faults.NoMemory = length image ≡ 174848
IsListFault image _ = ⊥
