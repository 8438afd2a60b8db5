-- The entries so far are written.
use Rattle.std.proofs.Common.{take, ◌≡◌}
use Rattle.d64_image.specs.Memory.{disk_image}
use Rattle.disk_changes.specs.Sorts.{with_entries}
use Rattle.disk_changes.proofs.sorting.put_entries.Given as goal

abbrev pub invariant-loop-number : goal.invariant-loop-number
invariant-loop-number l =
    disk_image l.disk ≡ with_entries (disk_image l.fn.disk) (take l.number l.slots) (take l.number l.entries)
