-- The beginning, and the marks of the sectors so far, were printed.
use Rattle.std.proofs.Common.{◌++◌, take}
use Rattle.std.specs.Prelude.{flat_map}
use Rattle.std.specs.Io.KnownBytes.{Appends}
use Rattle.d64_image.specs.Places.{places}
use Rattle.disk_pictures.proofs.InOrder.{differing}
use Rattle.disk_pictures.specs.ComparedPages.{mark_arc, marks_head}
use Rattle.disk_pictures.proofs.comparison.differences.print_marks.Given as goal

abbrev pub invariant-loop-index : goal.invariant-loop-index
invariant-loop-index g l = Appends (g.W.Write.contents l.fn.out) (g.W.Write.contents l.out)
    (marks_head ++ flat_map (differing mark_arc l.before.sectors.now l.after.sectors.now) (take l.index places))
