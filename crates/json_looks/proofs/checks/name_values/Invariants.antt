-- The names so far.
use Rattle.std.proofs.Common.{◌≡◌, map, take}
use Rattle.damaged_files.specs.reached.Names.{name_of}
use Rattle.json_looks.specs.Entries.{typed}
use Rattle.serde_json.specs.View.{view}
use Rattle.json_looks.proofs.checks.name_values.Given as goal

abbrev pub invariant-loop-slot : goal.invariant-loop-slot
invariant-loop-slot l = map view l.values.items ≡ map (λ slot. typed (name_of slot)) (take l.slot-index l.slots)
