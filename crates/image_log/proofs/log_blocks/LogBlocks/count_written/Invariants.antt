use Rattle.std.proofs.Common.{◌≤◌, ◌<◌, ℕ, List}
use Rattle.image_log.specs.Blocks.{IsBlank, block_at}
use Rattle.image_log.specs.Readers.{AreKnown}
use Rattle.image_log.proofs.log_blocks.LogBlocks.count_written.Given as goal

abbrev pub invariant-loop-n : goal.invariant-loop-n
invariant-loop-n l = record {
  from : l.end ≤ l.n;
  few : l.n ≤ 1024;
  blank : (f : List ℕ) → AreKnown l.self f 0 → (q : ℕ) → l.n ≤ q → q < 1024 → IsBlank (block_at f q);
}

abbrev pub decreases-loop-n : goal.decreases-loop-n
decreases-loop-n l = l.n
