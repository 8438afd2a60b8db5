use Rattle.std.proofs.Common.{◌≡◌, ◌≤◌, ℕ, List}
use Rattle.image_log.specs.Blocks.{block_at, committed}
use Rattle.image_log.specs.Readers.{AreKnown}
use Rattle.image_log.proofs.log_blocks.LogBlocks.count_committed.Given as goal

abbrev pub invariant-loop-n : goal.invariant-loop-n
invariant-loop-n l = record {
  few : l.n ≤ l.whole;
  same : (f : List ℕ) → AreKnown l.self f 0 → committed (block_at f) l.whole ≡ committed (block_at f) l.n;
}

abbrev pub decreases-loop-n : goal.decreases-loop-n
decreases-loop-n l = l.n
