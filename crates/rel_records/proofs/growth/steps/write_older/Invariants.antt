use Rattle.std.proofs.Common.{◌≡◌, ◌≤◌}
use Rattle.d64_image.specs.History.{Changes}
use Rattle.rel_records.specs.growth.Steps.{IsSided}
use Rattle.rel_records.proofs.lemmas.steps.Sided.{AreWrittenBelow}
use Rattle.rel_records.proofs.growth.steps.write_older.Given as goal

abbrev pub invariant-loop-number : goal.invariant-loop-number
invariant-loop-number g l = record {
  written : AreWrittenBelow (g.D.Sectors.history.image l.fn.disk) (g.D.Sectors.history.image l.disk) l.blocks l.sides
      l.size l.number;
  changes : Changes g.D.Sectors.history l.fn.disk l.disk l.number (IsSided (g.D.Sectors.history.image l.fn.disk)
      l.blocks l.sides l.size);
  reads : g.D.Sectors.history.reads l.disk ≤ g.D.Sectors.history.reads l.fn.disk;
  failures : g.D.Sectors.history.failures l.disk ≡ g.D.Sectors.history.failures l.fn.disk;
}
