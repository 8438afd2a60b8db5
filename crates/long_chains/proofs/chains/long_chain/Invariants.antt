-- The sectors so far, and after them the rest of the chain.
use Rattle.std.proofs.Common.{◌≡◌, ◌-◌, length}
use Rattle.std.specs.List.{AllByRecursion}
use Rattle.long_chains.specs.Chains.{chain_of, chain_within}
use Rattle.long_chains.specs.Sectors.{HasSector}
use Rattle.long_chains.proofs.Walked.{joined}
use Rattle.long_chains.proofs.chains.long_chain.Given as goal

abbrev pub invariant-walk : goal.invariant-walk
invariant-walk l = record {
  so_far : chain_of l.image l.fn.track l.fn.sector
      ≡ joined l.chain.items (chain_within l.image (802 - length l.chain.items) l.link.0 l.link.1);
  inside : AllByRecursion (HasSector l.image) l.chain.items;
}

-- how many more there may be
abbrev pub decreases-walk : goal.decreases-walk
decreases-walk l = 802 - length l.chain.items
