-- The side sectors of the entries so far are right.
use Rattle.std.proofs.Common.{Ok, ◌≡◌, ◌≤◌, ◌+◌, ◌*◌}
use Rattle.std.specs.Prelude.{take}
use Rattle.disk_layout.specs.Layout.{IsLayout, Layout}
use Rattle.layout_check.specs.Mending.{MakesRight}
use Rattle.layout_check.specs.Reads.{owned_by}
use Rattle.layout_check.specs.RepairOrder.{sides_of}
use Rattle.layout_check.proofs.mending.mend_entries.Given as goal

abbrev pub invariant-loop-slot : goal.invariant-loop-slot
invariant-loop-slot g l =
    let S = g.D.Sectors.history in
    record {
      right : (m : Layout) → IsLayout (S.image l.fn.disk) m
          → MakesRight {T = Unit {0}} S l.fn.disk l.disk m (sides_of (take l.slot-index m.files)) (Ok tt);
      failures : S.failures l.disk ≡ S.failures l.fn.disk;
      reads : (m : Layout) → IsLayout (S.image l.fn.disk) m
          → S.reads l.disk ≤ S.reads l.fn.disk + (18 + 3 * owned_by (take l.slot-index m.files));
    }
