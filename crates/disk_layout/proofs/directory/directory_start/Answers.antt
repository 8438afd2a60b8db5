-- The disk has that sector.
use Rattle.disk_layout.proofs.lemmas.chains.Names.{found-is, on-disk}
use Rattle.disk_layout.specs.Directory.{directory_start}
use Rattle.disk_layout.proofs.directory.directory_start.Goals as goal

pub known-requires : goal.known-requires
known-requires c = on-disk directory_start

pub returns : goal.returns
returns c = found-is directory_start c.known.result c.known.ensures
