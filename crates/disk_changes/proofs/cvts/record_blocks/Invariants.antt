-- The blocks of the records so far.
use Rattle.std.proofs.Common.{◌≡◌, ◌≤◌, ◌*◌}
use Rattle.disk_changes.specs.Cvts.{record_blocks}
use Rattle.disk_changes.proofs.cvts.record_blocks.Given as goal

abbrev pub invariant-loop-number : goal.invariant-loop-number
invariant-loop-number l = record {
  value : l.blocks ≡ record_blocks l.bytes l.number;
  few : l.blocks ≤ 255 * l.number;
}
