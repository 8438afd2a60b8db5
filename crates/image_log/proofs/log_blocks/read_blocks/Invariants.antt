use Rattle.std.proofs.Common.{◌≡◌, ◌≤◌, ℕ, List, Some, length}
use Rattle.image_log.specs.Readers.{AreKnown}
use Rattle.image_log.proofs.log_blocks.read_blocks.Given as goal

abbrev pub invariant-loop-n : goal.invariant-loop-n
invariant-loop-n g l = record {
  few : l.n ≤ 1024;
  same : g.L.LogReader.bytes l.log ≡ g.L.LogReader.bytes l.initial.log;
  whole : length l.blocks.whole ≡ 1024;
  last : length l.blocks.last ≡ 1024;
  blank : length l.blocks.blank ≡ 1024;
  known : (f : List ℕ) → g.L.LogReader.bytes l.initial.log ≡ Some f → 4194304 ≤ length f → AreKnown l.blocks f l.n;
}

abbrev pub decreases-loop-n : goal.decreases-loop-n
decreases-loop-n g l = l.n
