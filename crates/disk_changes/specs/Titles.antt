-- What comes of giving the disk of an image another name and ID: bytes 144 to 159, and 162 and 163, of 18/0 (1541 User's Guide).
use Rattle.std.specs.Prelude.{◌≡◌, List, codes, ℕ}
use Rattle.d64_image.specs.Images.{Image, put, sector}
use Rattle.d64_image.specs.Memory.{disk_image, sectors_in}
use Rattle.d64_image.specs.Offsets.{overwritten}
use Rattle.disk_changes.specs.Judged.{IsSoundDisk}
use Rattle.disk_changes.specs.declared.changes.Changed.{Changed}
use Rattle.disk_layout.specs.Directory.{map_place}
use Rattle.disk_layout.specs.Rest.{slot_name}

-- the disk with this name and this ID
abbrev pub retitled : Image → (name id : List ℕ) → Image
retitled img name id = put img map_place (overwritten (overwritten (sector img map_place) 144 (slot_name name)) 162 id)

-- The disk that comes of it has them, and is otherwise as before; and what is printed.
pub record IsTitled (image name id : List ℕ) (made : Changed) : Type 0 where
  pub before : IsSoundDisk image
  pub after : disk_image made.disk ≡ retitled (sectors_in image) name id
  pub text : made.text.items ≡ codes "TITLED\n"
