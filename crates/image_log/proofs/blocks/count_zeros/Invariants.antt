use Rattle.std.proofs.Common.{◌≡◌, ◌≤◌}
use Rattle.image_log.specs.Blocks.{zeros_in}
use Rattle.image_log.proofs.blocks.count_zeros.Given as goal

abbrev pub invariant-loop-i : goal.invariant-loop-i
invariant-loop-i l = record { counted : l.count ≡ zeros_in l.block 2 l.i; few : l.count ≤ l.i }
