-- The links lead through the sectors so far, all of which a directory may have, to one more.
use Rattle.std.proofs.Common.{◌*◌, ◌-◌, ◌<◌, ◌≡◌, ◌≤◌}
use Rattle.arrayvec.specs.ArrayVec.{array_vec_len}
use Rattle.d64_image.specs.Memory.{disk_image}
use Rattle.disk_layout.proofs.lemmas.chains.Directories.{IsReached}
use Rattle.disk_layout.specs.Directory.{used_slots}
use Rattle.damaged_files.proofs.reached.directory.read_so_far.Given as goal

abbrev pub invariant-sectors : goal.invariant-sectors
invariant-sectors l = record {
  reached : IsReached (disk_image l.disk) l.sectors.items l.at;
  slots : l.entries.items ≡ used_slots (disk_image l.disk) l.sectors.items;
  room : array_vec_len l.entries ≤ 8 * array_vec_len l.sectors;
  few : array_vec_len l.sectors < 18;
}

abbrev pub decreases-sectors : goal.decreases-sectors
decreases-sectors l = 18 - array_vec_len l.sectors
