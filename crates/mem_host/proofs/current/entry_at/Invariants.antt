use Rattle.std.proofs.Common.{◌≡◌, take}
use Rattle.mem_host.specs.Moves.{world_of}
use Rattle.one_host.specs.Calls.{entry}
use Rattle.mem_host.proofs.current.entry_at.Given as goal

abbrev pub invariant-loop-i : goal.invariant-loop-i
invariant-loop-i l = l.entry ≡ entry (world_of (take l.i l.moves)) l.path
