-- The sectors so far have right counts, and the image differs in counts alone.
use Rattle.std.proofs.Common.{Ok, ◌≡◌, ◌≤◌, ◌+◌, length, take}
use Rattle.d64_image.specs.History.{Changes}
use Rattle.disk_layout.specs.Layout.{IsLayout, Layout}
use Rattle.layout_check.specs.Mending.{MakesRight}
use Rattle.layout_check.specs.Recounted.{IsRecountOf}
use Rattle.layout_check.proofs.recounting.mend_counts.Given as goal

abbrev pub invariant-loop-place : goal.invariant-loop-place
invariant-loop-place g l =
    let S = g.D.Sectors.history in
    record {
      moments : Changes S l.fn.disk l.disk l.place-index (λ c. IsRecountOf (S.image l.fn.disk) c l.place-items);
      right : (m : Layout) → IsLayout (S.image l.fn.disk) m
          → MakesRight {T = Unit {0}} S l.fn.disk l.disk m (take l.place-index l.place-items) (Ok tt);
      failures : S.failures l.disk ≡ S.failures l.fn.disk;
      reads : S.reads l.disk ≤ S.reads l.fn.disk + (length l.place-items + l.place-index);
    }
