-- What the entries left make of the disk now is what all make of it.
use Rattle.std.proofs.Common.{drop, ◌≡◌}
use Rattle.d64_image.specs.Memory.{disk_image}
use Rattle.disk_changes.specs.Art.{with_tracks}
use Rattle.disk_changes.proofs.art.put_tracks.Given as goal

abbrev pub invariant-loop-entry : goal.invariant-loop-entry
invariant-loop-entry l = with_tracks l.track (disk_image l.disk) (drop l.entry-index l.entries)
    ≡ with_tracks l.track (disk_image l.fn.disk) l.entries
