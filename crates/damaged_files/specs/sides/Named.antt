-- Relative entries that get a place for their first side sector. Our own.
use Rattle.std.specs.Prelude.{◌≡◌, ◌+◌, ◌*◌, ◌∷◌, [], Contains, IsTrue, List}
use Rattle.std.specs.List.{AllByRecursion}
use Rattle.d64_image.specs.Images.{Image, put, sector}
use Rattle.d64_image.specs.Offsets.{overwritten}
use Rattle.d64_image.specs.declared.place.Place.{Place}
use Rattle.disk_layout.specs.Chain.{NamesNone}
use Rattle.disk_layout.specs.Directory.{IsDirectory}
use Rattle.disk_layout.specs.Layout.{is_rel}
use Rattle.disk_layout.specs.Side.{place_bytes}
use Rattle.disk_layout.specs.declared.slot.Slot.{Slot}

-- the image with this place in bytes 21 and 22 of the slot
abbrev pub with_side : Image → Slot → Place → Image
with_side img s q = put img s.sector (overwritten (sector img s.sector) (32 * s.number + 21) (place_bytes q))

-- the image with these places in these slots
abbrev pub with_sides : Image → List (Slot × Place) → Image
with_sides img [] = img
with_sides img (e ∷ es) = with_side (with_sides img es) e.0 e.1

-- the entry of a relative file that names no sector of the disk as its first side sector
abbrev pub NamesNoSide : Slot → Type 0
NamesNoSide s = IsTrue (is_rel s) × NamesNone s.bytes 21

-- The second image has a place in some entries of the first that named no side sector, and is otherwise the first.
pub record NamesSides (old new : Image) : Type 0 where
  pub directory : List Place
  pub entries : List Slot
  pub of : IsDirectory old directory entries
  pub named : List (Slot × Place)
  pub each : AllByRecursion (λ e. Contains entries e.0 × NamesNoSide e.0) named
  pub after : new ≡ with_sides old named
