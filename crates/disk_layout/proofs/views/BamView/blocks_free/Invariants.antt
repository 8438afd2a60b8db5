-- The sum of the counts so far.
use Rattle.std.proofs.Common.{◌≡◌, ◌+◌, ◌*◌, ◌≤◌}
use Rattle.std.specs.Prelude.{sum_by}
use Rattle.disk_layout.specs.View.{data_count}
use Rattle.disk_layout.specs.Map.{numbers_below}
use Rattle.disk_layout.proofs.views.BamView.blocks_free.Given as goal

abbrev pub invariant-loop-below : goal.invariant-loop-below
invariant-loop-below l = record {
  so_far : l.sum ≡ sum_by (λ n. data_count l.self.bytes.now (n + 1)) (numbers_below l.below);
  small : l.sum ≤ 255 * l.below;
}
