-- Data blocks as they are read. Our own.
use Rattle.std.specs.Prelude.{ℕ, ◌≡◌, List, Some, slice_get}
use Rattle.d64_image.specs.Images.{Image, Sector, sector}
use Rattle.d64_image.specs.declared.place.Place.{Place}

-- these bytes are block r of these
pub record IsBlock (img : Image) (ps : List Place) (r : ℕ) (bytes : Sector) : Type 0 where
  pub place : Place
  pub at : slice_get ps r ≡ Some place
  pub read : bytes ≡ sector img place
