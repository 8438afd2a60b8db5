-- The shades of the sectors so far are there.
use Rattle.std.proofs.Common.{◌≡◌, ◌<◌, ◌-◌, true}
use Rattle.d64_image.specs.Places.{index_of}
use Rattle.d64_image.specs.declared.place.Place.{Place}
use Rattle.disk_pictures.specs.Held.{drawn_in}
use Rattle.disk_pictures.specs.Shades.{has_shade}
use Rattle.disk_pictures.specs.Sheets.{shade}
use Rattle.disk_pictures.proofs.sheets.shades.Shades.of.Given as goal

abbrev pub invariant-loop-index : goal.invariant-loop-index
invariant-loop-index l = (p : Place) → index_of p < l.index
    → has_shade l.shades (p.track - 1) (shade l.found l.drawing.map (drawn_in l.drawing) p) ≡ true
