use Rattle.std.proofs.Common.{◌≡◌, ◌<◌, ◌≤◌, ◌+◌, ◌*◌, ℕ}
use Rattle.std.specs.Prelude.{None}
use Rattle.disk_layout.specs.Chain.{named_at}
use Rattle.damaged_files.proofs.cut.listed.points_below.Given as goal

abbrev pub invariant-loop-number : goal.invariant-loop-number
invariant-loop-number l = record {
  none : (k : ℕ) → l.count ≤ k → k < l.number → named_at l.bytes (16 + 2 * k) ≡ None;
}
