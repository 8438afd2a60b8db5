-- The numbers and the places of the faults. Our own.
use Rattle.std.specs.Prelude.{ℕ}
use Rattle.d64_image.specs.declared.place.Place.{Place}
use Rattle.disk_layout.specs.declared.faults.Fault.{Fault}
use Rattle.disk_layout.specs.declared.faults.Fault.TheVariants.{
  BadLength,
  BadLink,
  BadSide,
  BadType,
  CountWrong,
  Device,
  Loop,
  MapWrong,
  OwnedTwice,
  Unclosed,
}

-- the number by which a fault is reported
abbrev pub number_of : Fault → ℕ
number_of (BadLink _) = 1
number_of (Loop _) = 2
number_of (OwnedTwice _) = 3
number_of (BadType _) = 4
number_of (Unclosed _) = 5
number_of (BadSide _) = 6
number_of (BadLength _) = 7
number_of (CountWrong _) = 8
number_of (MapWrong _) = 9
number_of (Device _) = 10

-- where a fault is
abbrev pub place_of : Fault → Place
place_of (BadLink p) = p
place_of (Loop p) = p
place_of (OwnedTwice p) = p
place_of (BadType p) = p
place_of (Unclosed p) = p
place_of (BadSide p) = p
place_of (BadLength p) = p
place_of (CountWrong p) = p
place_of (MapWrong p) = p
place_of (Device p) = p
