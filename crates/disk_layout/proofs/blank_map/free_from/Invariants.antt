-- The sectors below the loop's are free.
use Rattle.disk_layout.specs.Free.{IsFreeFrom}
use Rattle.disk_layout.proofs.blank_map.free_from.Given as goal

abbrev pub invariant-loop-sector : goal.invariant-loop-sector
invariant-loop-sector l = IsFreeFrom l.fn.map.bytes l.map.bytes l.track l.taken l.sector
