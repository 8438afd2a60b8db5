-- Side sectors led through the places so far to the sector at hand.
use Rattle.std.proofs.Common.{◌≡◌, ◌<◌, length}
use Rattle.d64_image.specs.Memory.{disk_image}
use Rattle.disk_layout.specs.Fault.{SidesLead}
use Rattle.disk_reports.proofs.sides.follow_links.Given as goal

abbrev pub invariant-loop-number : goal.invariant-loop-number
invariant-loop-number l = record {
  below : l.number < l.count;
  leads : SidesLead (disk_image l.disk) 0 l.fn.first l.places.items l.at;
  count : length l.places.items ≡ l.number;
}
