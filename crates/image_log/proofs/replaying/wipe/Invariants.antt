use Rattle.std.proofs.Common.{◌≡◌, ◌<◌, ℕ, [], replicate, slice_index_or}
use Rattle.image_log.proofs.replaying.wipe.Given as goal

abbrev pub invariant-loop-i : goal.invariant-loop-i
invariant-loop-i l = (j : ℕ) → j < l.i → slice_index_or l.image j [] ≡ replicate 256 0
