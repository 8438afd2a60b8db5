-- From the end on all bytes are shifted spaces.
use Rattle.std.proofs.Common.{◌≡◌, ◌<◌, ◌≤◌, ℕ, length, slice_index}
use Rattle.damaged_files.proofs.reached.names.end_of.Given as goal

abbrev pub invariant-loop-end : goal.invariant-loop-end
invariant-loop-end l = (l.end ≤ length l.bytes) × ((j : ℕ) → l.end ≤ j → j < length l.bytes
    → slice_index l.bytes j ≡ 160)

abbrev pub decreases-loop-end : goal.decreases-loop-end
decreases-loop-end l = l.end
