use Rattle.std.proofs.Common.{◌≡◌, ◌≤◌, ◌<◌, ◌&&◌, ℕ, List, false}
use Rattle.image_log.specs.Blocks.{block_at, is_last, is_whole}
use Rattle.image_log.specs.Readers.{AreKnown}
use Rattle.image_log.proofs.log_blocks.LogBlocks.none_ends.Given as goal

abbrev pub invariant-loop-p : goal.invariant-loop-p
invariant-loop-p l = (f : List ℕ) → AreKnown l.self f 0 → (k : ℕ) → l.from ≤ k → k < l.p
    → is_whole k (block_at f k) && is_last (block_at f k) ≡ false
