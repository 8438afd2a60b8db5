use Rattle.std.proofs.Common.{◌≡◌, ◌*◌, ℕ, take}
use Rattle.d64_image.specs.History.{OnlyReads}
use Rattle.disk_layout.specs.Layout.{File, Layout}
use Rattle.rel_records.specs.File.{IsFileOf}
use Rattle.rel_records.proofs.growth.gathering.read_places.Given as goal

abbrev pub invariant-loop-side : goal.invariant-loop-side
invariant-loop-side g l = record {
  listed : (k : Layout) (n : ℕ) (f : File) → IsFileOf (g.D.Sectors.history.image l.fn.disk) k n f l.file
      → l.blocks.items ≡ take (120 * l.side-index) f.blocks;
  sides : l.sides.items ≡ take l.side-index l.file.sides.items;
  reads : OnlyReads g.D.Sectors.history l.fn.disk l.disk l.side-index;
  failures : g.D.Sectors.history.failures l.disk ≡ g.D.Sectors.history.failures l.fn.disk;
}
