-- The free sectors so far were counted.
use Rattle.std.proofs.Common.{◌-◌, ◌≡◌, ◌≤◌}
use Rattle.layout_check.proofs.lemmas.mending.Ones.{ones_to}
use Rattle.disk_reports.proofs.map_bits.is_counted.Given as goal

abbrev pub invariant-loop-place : goal.invariant-loop-place
invariant-loop-place l = record {
  so_far : l.count ≡ ones_to l.map l.track l.sector;
  few : l.count ≤ l.sector;
  short : l.sector ≤ 21;
}

-- how many sectors a track may still have
abbrev pub decreases-loop-place : goal.decreases-loop-place
decreases-loop-place l = 21 - l.sector
