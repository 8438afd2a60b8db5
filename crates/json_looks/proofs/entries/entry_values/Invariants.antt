-- The objects of the entries so far.
use Rattle.std.proofs.Common.{◌≡◌, map, take}
use Rattle.json_looks.specs.Entries.{entry_data}
use Rattle.serde_json.specs.View.{view}
use Rattle.json_looks.proofs.entries.entry_values.Given as goal

abbrev pub invariant-loop-slot : goal.invariant-loop-slot
invariant-loop-slot l = map view l.values.items ≡ map entry_data (take l.slot-index l.slots)
