-- The objects of the entries so far.
use Rattle.std.proofs.Common.{◌≡◌, map, take}
use Rattle.json_looks.specs.Entries.{entry_data}
use Rattle.serde_json.specs.View.{view}
use Rattle.json_looks.proofs.sector_maps.file_values.Given as goal

abbrev pub invariant-loop-file : goal.invariant-loop-file
invariant-loop-file l = map view l.values.items ≡ map (λ file. entry_data file.slot) (take l.file-index l.files)
