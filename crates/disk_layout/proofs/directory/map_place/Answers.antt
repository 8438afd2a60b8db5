-- The disk has that sector.
use Rattle.disk_layout.proofs.lemmas.chains.Names.{found-is, on-disk}
use Rattle.disk_layout.specs.Directory.{map_place}
use Rattle.disk_layout.proofs.directory.map_place.Goals as goal

pub known-requires : goal.known-requires
known-requires c = on-disk map_place

pub returns : goal.returns
returns c = found-is map_place c.known.result c.known.ensures
