-- The lines of the sectors so far were printed, and the device stays.
use Rattle.std.proofs.Common.{◌≡◌, take}
use Rattle.std.specs.Prelude.{flat_map}
use Rattle.std.specs.Io.KnownBytes.{Appends}
use Rattle.d64_image.specs.History.{WritesNothing}
use Rattle.d64_image.specs.Memory.{disk_image}
use Rattle.d64_image.specs.Places.{places}
use Rattle.disk_changes.specs.mended.Repairs.{mended_at}
use Rattle.disk_changes.proofs.mended.mending.print_places.Given as goal

abbrev pub invariant-loop-index : goal.invariant-loop-index
invariant-loop-index g l = record {
  printed : Appends (g.W.Write.contents l.fn.out) (g.W.Write.contents l.out)
      (flat_map (mended_at (disk_image l.before) (g.D.Sectors.history.image l.fn.after) l.maps.had l.maps.has)
      (take l.index places));
  quiet : WritesNothing g.D.Sectors.history l.fn.after l.after;
  failures : g.D.Sectors.history.failures l.after ≡ g.D.Sectors.history.failures l.fn.after;
}
