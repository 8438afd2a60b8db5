use Rattle.std.proofs.Common.{◌≡◌, ℕ, List}
use Rattle.image_log.specs.Blocks.{block_at, first_commit}
use Rattle.image_log.specs.Readers.{AreKnown}
use Rattle.image_log.proofs.log_blocks.LogBlocks.count_first.Given as goal

abbrev pub invariant-loop-q : goal.invariant-loop-q
invariant-loop-q l = (f : List ℕ) → AreKnown l.self f 0 → first_commit (block_at f) l.q ≡ 0
