use Rattle.std.proofs.Common.{◌≡◌, take}
use Rattle.mem_host.specs.Moves.{world_of}
use Rattle.mem_host.proofs.current.kind_of.Given as goal

abbrev pub invariant-loop-i : goal.invariant-loop-i
invariant-loop-i l = l.kind ≡ ((world_of (take l.i l.moves)).files l.number).kind
