use Rattle.std.proofs.Common.{◌-◌, length}
use Rattle.disk_layout.specs.Chain.{EachOnce, Leads}
use Rattle.layout_check.specs.Calls.{Passes}
use Rattle.layout_check.specs.Owners.{IsClaimed}
use Rattle.layout_check.proofs.blocks.claim_blocks.Given as goal

abbrev pub invariant-chain : goal.invariant-chain
invariant-chain g l = record {
  leads : Leads (g.D.Sectors.history.image l.fn.disk) l.initial.at l.places.items l.at;
  once : EachOnce l.places.items;
  claimed : IsClaimed l.fn.owners l.owners l.number l.places.items;
  passes : Passes g.D.Sectors.history l.fn.disk l.disk (length l.places.items);
}

-- how many sectors have not been visited
abbrev pub decreases-chain : goal.decreases-chain
decreases-chain g l = 683 - length l.places.items
