-- The blocks so far came to the file.
use Rattle.std.proofs.Common.{◌≡◌, ◌≤◌, ◌++◌, take}
use Rattle.d64_image.specs.Memory.{disk_image}
use Rattle.damaged_files.specs.reached.Reached.{IsReach}
use Rattle.geos_files.specs.Marked.{IsMarked}
use Rattle.geos_files.proofs.Parts.{last_or}
use Rattle.geos_files.proofs.chains.add_chain.Given as goal

abbrev pub invariant-loop-place : goal.invariant-loop-place
invariant-loop-place l = record {
  reach : IsReach (disk_image l.disk) l.fn.first l.place-items l.reach.fault l.reach.last;
  marked : IsMarked l.visited l.blocks.items;
  are : l.blocks.items ≡ l.fn.blocks.items ++ take l.place-index l.place-items;
  count : l.count ≡ l.place-index;
  few : l.count ≤ l.most;
  before : l.before ≡ last_or l.fn.from (take l.place-index l.place-items);
}
