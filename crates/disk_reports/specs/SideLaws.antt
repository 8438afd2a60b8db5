-- What the lines of BADSIDE of a disk say, as a check would have it. Our own.
use Rattle.std.specs.Prelude.{ℕ, ◌≡◌, ◌⊎◌, IsTrue, List, length}
use Rattle.d64_image.specs.Images.{Image}
use Rattle.d64_image.specs.declared.place.Place.{Place}
use Rattle.disk_layout.specs.Chain.{NamesNone}
use Rattle.disk_layout.specs.Fault.{HoldsOfClean, IsClosed, IsSideSector, nowhere}
use Rattle.disk_layout.specs.Layout.{IsSound, is_rel, sides_for}
use Rattle.disk_layout.specs.declared.faults.Fault.TheVariants as faults
use Rattle.disk_layout.specs.declared.slot.Slot.{Slot}
use Rattle.disk_reports.specs.AllFaults.{AreLinks, HoldsAmong}
use Rattle.disk_reports.specs.Trails.{HasWholeChain, IsTrail, Shows}
use Rattle.disk_reports.specs.declared.links.Links.{Links}
use Rattle.disk_reports.specs.declared.trail.Trail.{Trail}
use Rattle.layout_check.specs.Exact.{AreExactSides}

-- p is the directory sector of a relative entry that names no first side sector, or a side sector of one
abbrev pub IsOfSides : Image → Place → Type 0
IsOfSides img p =
    ((s : Slot) × IsClosed img p s × IsTrue (is_rel s) × NamesNone s.bytes 21)
    ⊎ ((q : Place) × (s : Slot) × IsClosed img q s × IsTrue (is_rel s) × (blocks : List Place) × (j : ℕ)
    × IsSideSector img s blocks j p)

-- each sector that is named with BADSIDE is one of these; and of a sound disk a check could name it
abbrev pub AreToldOfSides : Type 0
AreToldOfSides = (img : Image) (l : Links) (p : Place) → AreLinks img l → HoldsAmong l (faults.BadSide p)
    → IsOfSides img p × (IsSound img → HoldsOfClean nowhere img (faults.BadSide p))

-- if a relative entry whose chain is whole shows no BADSIDE, its side sectors are as many as its blocks need, and exact
abbrev pub AreExactUnlessTold : Type 0
AreExactUnlessTold = (img : Image) (t : Trail) → IsTrail img t → HasWholeChain t.slot t.end
    → ((p : Place) → ¬ (Shows t (faults.BadSide p))) → (length t.sides.items ≡ sides_for (length t.blocks.items))
    × AreExactSides img t.slot t.blocks.items t.sides.items
