use Rattle.disk_pictures.proofs.lemmas.sheets.TileNumbers.{small-all, small-once, small-same}
use Rattle.disk_pictures.proofs.laws.tiles_have_683_sectors.Goals as goal

pub returns : goal.returns
returns c = record {
  printed = small-same;
  all = small-all;
  once = small-once;
}
