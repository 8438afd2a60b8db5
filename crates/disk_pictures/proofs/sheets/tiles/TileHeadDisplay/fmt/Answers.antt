-- How what a check told is styled.
use Rattle.std.proofs.Common.{refl}
use Rattle.std.proofs.Output.{has_written_of_eq}
use Rattle.disk_pictures.specs.Sheets.{tile_head}
use Rattle.disk_pictures.proofs.sheets.tiles.TileHeadDisplay.fmt.Goals as goal

pub returns-clause-writes : goal.returns-clause-writes
unfolding tile_head
returns-clause-writes g c = λ plain done. has_written_of_eq _ _ _ _ _
    (rw (c.class_of-class.ensures) refl) (c.write.ensures.writes plain done)
