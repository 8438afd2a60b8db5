-- What making a shop's image comes to. The names of a fresh disk are our own.
use Rattle.std.specs.Prelude.{◌≡◌, ℕ, List, codes, slice_index}
use Rattle.d64_image.specs.Images.{Image, IsImage, sector}
use Rattle.d64_image.specs.Memory.{bytes_of}
use Rattle.d64_image.specs.declared.place.Place.{Place}
use Rattle.disk_layout.specs.Blank.{IsBlank}

-- every byte of the image is 0
abbrev pub IsZero : Image → Type 0
IsZero img = (p : Place) (i : ℕ) → slice_index (sector img p) i ≡ 0

-- the disk of an empty shop with so many tills: the whole blank image over zeros, by the name and the id of our disks
pub record IsFreshDisk (img : Image) (tills : ℕ) : Type 0 where
  pub zeros : Image
  pub zero : IsZero zeros
  pub blank : IsBlank zeros img (codes "STOCK LEDGER") (codes "01") tills
  -- 683 sectors of 256 bytes
  pub whole : IsImage img

-- the bytes of such a disk, sector after sector
pub record AreFreshBytes (tills : ℕ) (bytes : List ℕ) : Type 0 where
  pub disk : Image
  pub fresh : IsFreshDisk disk tills
  pub bytes_of : bytes ≡ bytes_of disk
