-- No entry so far shows the fault.
use Rattle.std.proofs.Common.{◌≡◌, ◌<◌, ℕ}
use Rattle.std.specs.Prelude.{Some, slice_get}
use Rattle.disk_reports.specs.Trails.{Shows}
use Rattle.disk_reports.specs.declared.trail.Trail.{Trail}
use Rattle.disk_reports.proofs.holding.is_shown.Given as goal

abbrev pub invariant-loop-trail : goal.invariant-loop-trail
invariant-loop-trail l = record {
  none : (k : ℕ) → k < l.trail-index → (t : Trail) → slice_get l.trails k ≡ Some t → ¬ (Shows t l.fault);
}
