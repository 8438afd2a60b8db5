-- What is printed of a fault: its word and its place. Our own.
use Rattle.std.specs.Prelude.{ℕ, ◌++◌, List, codes, decimal}
use Rattle.d64_image.specs.declared.place.Place.{Place}
use Rattle.disk_layout.specs.declared.faults.Fault.{Fault}
use Rattle.disk_layout.specs.declared.faults.Fault.TheVariants as faults

-- a track and a sector: 17/0
abbrev pub place_text : Place → List ℕ
place_text p = decimal p.track ++ codes "/" ++ decimal p.sector

-- a fault of the layout and its place: LOOP 17/0
abbrev pub fault_text : Fault → List ℕ
fault_text (faults.BadLink p) = codes "BADLINK " ++ place_text p
fault_text (faults.Loop p) = codes "LOOP " ++ place_text p
fault_text (faults.OwnedTwice p) = codes "OWNEDTWICE " ++ place_text p
fault_text (faults.BadType p) = codes "BADTYPE " ++ place_text p
fault_text (faults.Unclosed p) = codes "UNCLOSED " ++ place_text p
fault_text (faults.BadSide p) = codes "BADSIDE " ++ place_text p
fault_text (faults.BadLength p) = codes "BADLENGTH " ++ place_text p
fault_text (faults.CountWrong p) = codes "COUNTWRONG " ++ place_text p
fault_text (faults.MapWrong p) = codes "MAPWRONG " ++ place_text p
fault_text (faults.Device p) = codes "DEVICE " ++ place_text p
