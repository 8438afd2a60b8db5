-- The links lead through the visited sectors, all of which a directory may have, to one more.
use Rattle.std.proofs.Common.{◌*◌, ◌-◌, ◌<◌, ◌≡◌, ◌≤◌}
use Rattle.arrayvec.specs.ArrayVec.{array_vec_len}
use Rattle.d64_image.specs.History.{OnlyReads}
use Rattle.disk_layout.proofs.lemmas.chains.Directories.{IsReached}
use Rattle.disk_layout.specs.Directory.{used_slots}
use Rattle.disk_layout.proofs.directory.read_directory.Given as goal

abbrev pub invariant-sectors : goal.invariant-sectors
invariant-sectors g l =
    let S = g.D.Sectors.history in
    record {
      reads : OnlyReads S l.fn.disk l.disk (array_vec_len l.visited);
      failures : S.failures l.disk ≡ S.failures l.fn.disk;
      reached : IsReached (S.image l.fn.disk) l.visited.items l.at;
      slots : l.slots.items ≡ used_slots (S.image l.fn.disk) l.visited.items;
      room : array_vec_len l.slots ≤ 8 * array_vec_len l.visited;
      few : array_vec_len l.visited < 18;
    }

abbrev pub decreases-sectors : goal.decreases-sectors
decreases-sectors g l = 18 - array_vec_len l.visited
