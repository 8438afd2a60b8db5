use Rattle.std.proofs.Common.{◌≡◌, ◌≤◌, ℕ, List, Some, length}
use Rattle.image_log.specs.Blocks.{block_at, replayed}
use Rattle.image_log.specs.Recovered.{blank}
use Rattle.image_log.proofs.replaying.replay.Given as goal

abbrev pub invariant-loop-q : goal.invariant-loop-q
invariant-loop-q g l = record {
  same : g.L.LogReader.bytes l.log ≡ g.L.LogReader.bytes l.initial.log;
  image : (f : List ℕ) → g.L.LogReader.bytes l.initial.log ≡ Some f → 4194304 ≤ length f
      → l.image ≡ replayed (block_at f) blank l.q;
}
