use Rattle.std.proofs.Common.{◌≡◌, take}
use Rattle.mem_host.specs.Moves.{world_of}
use Rattle.mem_host.proofs.current.bytes_of.Given as goal

abbrev pub invariant-loop-i : goal.invariant-loop-i
invariant-loop-i l = l.bytes ≡ ((world_of (take l.i l.moves)).files l.number).bytes.now
