-- The bytes of a file of any type, of an image that may be hurt (1541 User's Guide, how files are stored).
use Rattle.std.specs.Prelude.{◌≡◌, ◌*◌, ◌+◌, ◌-◌, ℕ, List, Option, length, max, take}
use Rattle.d64_image.specs.Images.{Image}
use Rattle.d64_image.specs.Memory.{sectors_in}
use Rattle.d64_image.specs.declared.place.Place.{Place}
use Rattle.disk_layout.specs.Records.{joined}
use Rattle.disk_layout.specs.declared.faults.Fault.{Fault}
use Rattle.disk_layout.specs.declared.slot.Slot.{Slot}
use Rattle.file_rescues.specs.Found.{HasNone, IsHad}
use Rattle.file_rescues.specs.declared.finding.Kind.{Kind}

-- the bytes of a file with these blocks: 254 of each, but of the last those up to its last index
unfoldable pub file_bytes : Image → List Place → ℕ → List ℕ
file_bytes img blocks u = take (254 * (length blocks - 1) + max u 1 - 1) (joined img blocks)

-- these blocks can be reached of the image's first file of that name and kind, up to the index `last` of the last one. This
-- fault is in the way of more, or none is
pub record HasFile (image : List ℕ) (kind : Kind) (name : List ℕ) (fault : Option Fault) : Type 0 where
  pub size : length image ≡ 174848
  -- its number among the used entries
  pub number : ℕ
  pub slot : Slot
  pub blocks : List Place
  pub last : ℕ
  pub had : IsHad (sectors_in image) kind name number slot blocks last fault

-- the image has no file of that name and kind, as far as its directory can be read, up to this fault
pub record HasNoFile (image : List ℕ) (kind : Kind) (name : List ℕ) (ended : Option Fault) : Type 0 where
  pub size : length image ≡ 174848
  pub none : HasNone (sectors_in image) kind name ended
