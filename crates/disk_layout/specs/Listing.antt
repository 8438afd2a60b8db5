-- The sector to which a directory sector links (1541 User's Guide, directory format).
use Rattle.std.specs.Prelude.{◌⊎◌}
use Rattle.d64_image.specs.Images.{Sector}
use Rattle.d64_image.specs.declared.place.Place.{Place}
use Rattle.disk_layout.specs.Chain.{Names, NamesNone}
use Rattle.disk_layout.specs.Directory.{IsDirectoryPlace}

-- bytes 0-1 name no place of the disk, or one that the directory may not have: 12 00 is the map's, 11 00 is on track 17
abbrev pub LinksOut : Sector → Type 0
LinksOut bytes = NamesNone bytes 0 ⊎ ((q : Place) × Names bytes 0 q × ¬ (IsDirectoryPlace q))
