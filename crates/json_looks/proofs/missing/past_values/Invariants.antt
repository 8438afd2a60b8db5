-- The objects of the files so far.
use Rattle.std.proofs.Common.{◌≡◌, map, take}
use Rattle.std.specs.Prelude.{flat_map}
use Rattle.disk_pictures.specs.Drawings.{file_in}
use Rattle.json_looks.specs.Missing.{past_items}
use Rattle.serde_json.specs.View.{view}
use Rattle.json_looks.proofs.missing.past_values.Given as goal

abbrev pub invariant-loop-file : goal.invariant-loop-file
invariant-loop-file l = map view l.values.items ≡ flat_map (past_items l.image) (map file_in (take l.file-index l.files))
