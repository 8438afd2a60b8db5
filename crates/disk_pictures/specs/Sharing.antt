-- The first owners of a sector, as the code holds them. Our own.
use Rattle.std.specs.Prelude.{◌≡◌, List, slice_get}
use Rattle.disk_pictures.specs.declared.owners.Owner.{Owner}
use Rattle.disk_pictures.specs.declared.pages.sharing.Two.{Two}

-- these are the first two of the owners
abbrev pub IsTwoOf : Two → List Owner → Type 0
IsTwoOf two os = (two.first ≡ slice_get os 0) × (two.second ≡ slice_get os 1)
