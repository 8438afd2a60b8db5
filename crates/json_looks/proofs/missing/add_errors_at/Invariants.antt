-- The objects of the sectors so far came to those before.
use Rattle.std.proofs.Common.{◌≡◌, ◌++◌, map, take}
use Rattle.std.specs.Prelude.{flat_map, option_map}
use Rattle.disk_pictures.specs.Held.{drawn_in}
use Rattle.disk_pictures.specs.PastErrors.{entry_past}
use Rattle.json_looks.specs.Missing.{past_error_item}
use Rattle.long_chains.specs.Sectors.{error_in}
use Rattle.serde_json.specs.View.{view}
use Rattle.json_looks.proofs.missing.add_errors_at.Given as goal

abbrev pub invariant-loop-number : goal.invariant-loop-number
invariant-loop-number l = map view l.values.items ≡ map view l.fn.values.items
    ++ flat_map (λ n. past_error_item n (entry_past l.image (option_map (λ drawn. drawn_in drawn.now) l.drawing) n) (error_in l.image n))
    (take l.number-index l.numbers)
