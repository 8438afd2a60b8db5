use Rattle.std.proofs.Common.{◌≡◌, ◌<◌, length}
use Rattle.disk_layout.specs.Fault.{SidesLead}
use Rattle.layout_check.specs.Calls.{Passes}
use Rattle.layout_check.proofs.sides.walk_sides.Given as goal

abbrev pub invariant-loop-number : goal.invariant-loop-number
invariant-loop-number g l = record {
  passes : Passes g.D.Sectors.history l.fn.disk l.disk l.number;
  below : l.number < l.needed;
  leads : SidesLead (g.D.Sectors.history.image l.fn.disk) 0 l.initial.at l.sides.items l.at;
  count : length l.sides.items ≡ l.number;
}
