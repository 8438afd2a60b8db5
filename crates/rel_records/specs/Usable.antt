-- A disk that can be used: it is clean, but its map may call sectors taken that nobody owns. They stay taken. Our own.
use Rattle.std.specs.Prelude.{List}
use Rattle.d64_image.specs.Images.{Image}
use Rattle.d64_image.specs.declared.place.Place.{Place}
use Rattle.disk_layout.specs.Layout.{Layout}
use Rattle.layout_check.specs.Keeping.{IsCleanBut}

-- the layout of such an image
abbrev pub IsUsableLayout : Image → Layout → Type 0
IsUsableLayout img l = (strays : List Place) × IsCleanBut strays img l

-- an image that has one
abbrev pub IsUsable : Image → Type 0
IsUsable img = (l : Layout) × IsUsableLayout img l

-- whatever sectors a calls taken that nobody owns, c calls taken too, and no others: if a is clean, c is
abbrev pub StaysClean : Image → Layout → Image → Layout → Type 0
StaysClean a l c m = (strays : List Place) → IsCleanBut strays a l → IsCleanBut strays c m

-- c is so with one of its layouts
abbrev pub IsAsClean : Image → Layout → Image → Type 0
IsAsClean a l c = (m : Layout) × StaysClean a l c m
