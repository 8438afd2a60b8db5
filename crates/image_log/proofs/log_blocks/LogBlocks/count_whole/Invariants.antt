use Rattle.std.proofs.Common.{◌≡◌, ◌-◌, ◌+◌, ℕ, List}
use Rattle.image_log.specs.Blocks.{block_at, whole_from}
use Rattle.image_log.specs.Readers.{AreKnown}
use Rattle.image_log.proofs.log_blocks.LogBlocks.count_whole.Given as goal

abbrev pub invariant-loop-q : goal.invariant-loop-q
invariant-loop-q l = (f : List ℕ) → AreKnown l.self f 0
    → whole_from (block_at f) 0 1024 ≡ l.q + whole_from (block_at f) l.q (1024 - l.q)
