-- A table with an owner for each place of the disk. Our own.
use Rattle.std.specs.Prelude.{slice_index_or}
use Rattle.d64_image.specs.Places.{index_of}
use Rattle.d64_image.specs.declared.place.Place.{Place}
use Rattle.disk_pictures.specs.declared.owners.Owner.{Owner}
use Rattle.disk_pictures.specs.declared.owners.Owner.TheVariants as owner
use Rattle.disk_pictures.specs.declared.owners.Owners.{Owners}

-- the owner that the table has for the place
abbrev pub owner_in : Owners → Place → Owner
owner_in o p = slice_index_or o.owners (index_of p) owner.Nobody
