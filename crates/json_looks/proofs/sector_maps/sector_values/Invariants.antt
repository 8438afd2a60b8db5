-- The objects of the sectors so far.
use Rattle.std.proofs.Common.{◌≡◌, map, take}
use Rattle.d64_image.specs.Places.{places}
use Rattle.disk_pictures.specs.Held.{drawn_in}
use Rattle.json_looks.specs.SectorMaps.{sector_data}
use Rattle.serde_json.specs.View.{view}
use Rattle.json_looks.proofs.sector_maps.sector_values.Given as goal

abbrev pub invariant-loop-index : goal.invariant-loop-index
invariant-loop-index l =
    map view l.values.items ≡ map (sector_data l.image l.drawing.map (drawn_in l.drawing)) (take l.index places)
