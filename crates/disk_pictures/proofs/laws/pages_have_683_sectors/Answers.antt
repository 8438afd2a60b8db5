use Rattle.disk_pictures.proofs.DrawnNumbers.{drawing-same, numbers-once}
use Rattle.disk_pictures.proofs.HowManyDrawn.{numbers-all}
use Rattle.disk_pictures.proofs.laws.pages_have_683_sectors.Goals as goal

pub returns : goal.returns
returns c = record {
  printed = drawing-same;
  all = numbers-all;
  once = numbers-once;
}
