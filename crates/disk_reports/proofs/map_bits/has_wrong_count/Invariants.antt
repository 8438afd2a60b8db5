-- The tracks so far are counted right.
use Rattle.std.proofs.Common.{◌≡◌, ◌≤◌, ℕ}
use Rattle.disk_layout.specs.Map.{map_count}
use Rattle.layout_check.specs.Marked.{ones_on}
use Rattle.disk_reports.proofs.map_bits.has_wrong_count.Given as goal

abbrev pub invariant-loop-below : goal.invariant-loop-below
invariant-loop-below l = record {
  right : (t : ℕ) → 1 ≤ t → t ≤ l.below → map_count l.map t ≡ ones_on l.map t;
}
