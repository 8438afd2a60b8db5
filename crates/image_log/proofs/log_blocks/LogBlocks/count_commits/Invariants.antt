use Rattle.std.proofs.Common.{◌≡◌, ◌≤◌, ℕ, List}
use Rattle.image_log.specs.Blocks.{block_at}
use Rattle.image_log.specs.Readers.{AreKnown}
use Rattle.image_log.specs.Salvage.{commits_in}
use Rattle.image_log.proofs.log_blocks.LogBlocks.count_commits.Given as goal

abbrev pub invariant-loop-q : goal.invariant-loop-q
invariant-loop-q l = record {
  few : l.count ≤ l.q;
  commits : (f : List ℕ) → AreKnown l.self f 0 → l.count ≡ commits_in (block_at f) l.q;
}
