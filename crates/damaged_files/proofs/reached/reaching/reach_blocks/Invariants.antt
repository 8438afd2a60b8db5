-- The sectors so far were visited each once, and the next one not yet.
use Rattle.std.proofs.Common.{◌≡◌, ◌+◌, false, length}
use Rattle.d64_image.specs.Memory.{disk_image}
use Rattle.disk_layout.specs.Chain.{EachOnce, Leads}
use Rattle.disk_layout.specs.Visited.{IsSetOf, is_in, room}
use Rattle.damaged_files.proofs.reached.reaching.reach_blocks.Given as goal

abbrev pub invariant-walk : goal.invariant-walk
invariant-walk l = record {
  leads : Leads (disk_image l.disk) l.fn.first l.blocks.items l.at;
  once : EachOnce l.blocks.items;
  fresh : is_in l.visited l.at ≡ false;
  marks : IsSetOf l.visited l.blocks.items;
  count : length l.blocks.items + room l.visited ≡ 683;
}

-- how many sectors have not been visited
abbrev pub decreases-walk : goal.decreases-walk
decreases-walk l = room l.visited
