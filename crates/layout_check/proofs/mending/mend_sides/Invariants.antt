-- The side sectors so far are right.
use Rattle.std.proofs.Common.{Ok, ◌≡◌, ◌≤◌, ◌+◌}
use Rattle.std.specs.Prelude.{take}
use Rattle.disk_layout.specs.Layout.{IsLayout, Layout}
use Rattle.layout_check.specs.Mending.{MakesRight}
use Rattle.layout_check.proofs.mending.mend_sides.Given as goal

abbrev pub invariant-loop-number : goal.invariant-loop-number
invariant-loop-number g l =
    let S = g.D.Sectors.history in
    record {
      right : (m : Layout) → IsLayout (S.image l.fn.disk) m
          → MakesRight {T = Unit {0}} S l.fn.disk l.disk m (take l.number l.sides) (Ok tt);
      failures : S.failures l.disk ≡ S.failures l.fn.disk;
      reads : S.reads l.disk ≤ S.reads l.fn.disk + l.number;
    }
