-- The sectors so far were visited each once, and the next one not yet.
use Rattle.std.proofs.Common.{◌≡◌, ◌+◌, false, length}
use Rattle.d64_image.specs.History.{OnlyReads}
use Rattle.disk_layout.specs.Chain.{Leads, EachOnce}
use Rattle.disk_layout.specs.Visited.{IsSetOf, is_in, room}
use Rattle.disk_layout.proofs.chain.walk_chain.Given as goal

abbrev pub invariant-walk : goal.invariant-walk
invariant-walk g l =
    let S = g.D.Sectors.history in
    record {
      leads : Leads (S.image l.fn.disk) l.fn.first l.places.items l.at;
      once : EachOnce l.places.items;
      fresh : is_in l.visited l.at ≡ false;
      marks : IsSetOf l.visited l.places.items;
      count : length l.places.items + room l.visited ≡ 683;
      reads : OnlyReads S l.fn.disk l.disk (length l.places.items);
      failures : S.failures l.disk ≡ S.failures l.fn.disk;
    }

-- how many sectors have not been visited
abbrev pub decreases-walk : goal.decreases-walk
decreases-walk g l = room l.visited
