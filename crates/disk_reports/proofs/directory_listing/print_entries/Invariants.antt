-- The lines of the entries so far were written.
use Rattle.std.proofs.Common.{take}
use Rattle.std.specs.Prelude.{flat_map}
use Rattle.std.specs.Io.KnownBytes.{Appends}
use Rattle.disk_reports.specs.Texts.{entry_line}
use Rattle.disk_reports.proofs.directory_listing.print_entries.Given as goal

abbrev pub invariant-loop-slot : goal.invariant-loop-slot
invariant-loop-slot g l =
    Appends (g.W.Write.contents l.fn.out) (g.W.Write.contents l.out) (flat_map (entry_line l.form) (take l.slot-index l.slots))
