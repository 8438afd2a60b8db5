-- The objects of the sectors so far that weren't read.
use Rattle.std.proofs.Common.{◌≡◌, map, take}
use Rattle.std.specs.Prelude.{flat_map, option_map}
use Rattle.d64_image.specs.Places.{places}
use Rattle.damaged_files.specs.reached.Sizes.{error_of}
use Rattle.disk_pictures.specs.Held.{drawn_in}
use Rattle.disk_pictures.specs.Trims.{entry_at}
use Rattle.json_looks.specs.Missing.{error_item}
use Rattle.serde_json.specs.View.{view}
use Rattle.json_looks.proofs.missing.error_values.Given as goal

abbrev pub invariant-loop-index : goal.invariant-loop-index
invariant-loop-index l = map view l.values.items
    ≡ flat_map (λ p. error_item p (entry_at (option_map (λ drawn. drawn_in drawn.now) l.drawing) p) (error_of l.image p)) (take l.index places)
