use Rattle.std.proofs.Common.{ℕ, ◌≡◌, ◌≤◌, ◌-◌, length}
use Rattle.d64_image.specs.History.{Changes}
use Rattle.disk_layout.specs.Layout.{File, Layout, record_length}
use Rattle.disk_layout.specs.View.{blocks_free}
use Rattle.rel_records.specs.growth.Growth.{full, needed, records_had, run_writes}
use Rattle.rel_records.specs.growth.Steps.{IsAt, IsFilledUp, IsRunTo}
use Rattle.rel_records.specs.Written.{IsGrowingBy}
use Rattle.rel_records.proofs.growth.add_blocks.Given as goal

abbrev pub invariant-loop-count : goal.invariant-loop-count
invariant-loop-count g l = record {
  run : (m : Layout) (n : ℕ) (f : File) → IsAt (g.D.Sectors.history.image l.fn.disk) m n f l.fn.parts → IsFilledUp f
      → IsRunTo (g.D.Sectors.history.image l.fn.disk) (g.D.Sectors.history.image l.disk) m n f l._count l.parts;
  changes : (m : Layout) (n : ℕ) (f : File) → IsAt (g.D.Sectors.history.image l.fn.disk) m n f l.fn.parts → IsFilledUp f
      → Changes g.D.Sectors.history l.fn.disk l.disk (run_writes (length f.blocks) l._count)
      (IsGrowingBy (g.D.Sectors.history.image l.fn.disk) m n f (full (record_length f.slot) l.wanted - records_had f));
  room : needed l._count l.wanted ≤ blocks_free l.parts.map.bytes;
  long : length l.parts.blocks.items ≡ l._count;
  reads : g.D.Sectors.history.reads l.disk ≤ g.D.Sectors.history.reads l.fn.disk;
  failures : g.D.Sectors.history.failures l.disk ≡ g.D.Sectors.history.failures l.fn.disk;
}
