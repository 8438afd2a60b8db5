use Rattle.std.proofs.Common.{◌≡◌, ◌≤◌, length}
use Rattle.system_host.proofs.calls.filled.Given as goal

abbrev pub invariant-loop-turn : goal.invariant-loop-turn
invariant-loop-turn l = record { within : l.count ≤ length l.to; sized : length l.to ≡ length l.initial.to }
