-- What is told of a disk.
use Rattle.std.proofs.Common.{refl}
use Rattle.std.proofs.Output.{has_written_of_eq}
use Rattle.disk_pictures.specs.Sheets.{caption}
use Rattle.disk_pictures.proofs.sheets.tiles.CaptionDisplay.fmt.Goals as goal

pub returns-clause-writes : goal.returns-clause-writes
unfolding caption
returns-clause-writes g c = λ plain done. has_written_of_eq _ _ _ _ _
    (rw (c.disk_name-name.ensures, c.as_bytes.ensures.value, rw c.new.ensures at c.blocks_free-free.ensures) refl) (c.write.ensures.writes plain done)
