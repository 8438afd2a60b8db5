-- The names so far were written.
use Rattle.std.proofs.Common.{take}
use Rattle.std.specs.Prelude.{flat_map}
use Rattle.std.specs.Io.KnownBytes.{Appends}
use Rattle.disk_reports.specs.NearNames.{near_name}
use Rattle.disk_reports.proofs.near_names.print_all_near.Given as goal

abbrev pub invariant-loop-slot : goal.invariant-loop-slot
invariant-loop-slot g l =
    Appends (g.W.Write.contents l.fn.out) (g.W.Write.contents l.out) (flat_map near_name (take l.slot-index l.slots))
