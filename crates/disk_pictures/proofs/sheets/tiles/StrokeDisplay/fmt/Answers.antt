-- Where the sector is.
use Rattle.std.proofs.Common.{refl}
use Rattle.std.proofs.Output.{has_written_of_eq}
use Rattle.disk_pictures.specs.Sheets.{stroke}
use Rattle.disk_pictures.proofs.sheets.tiles.StrokeDisplay.fmt.Goals as goal

pub returns-clause-writes : goal.returns-clause-writes
unfolding stroke
returns-clause-writes g c = λ plain done. has_written_of_eq _ _ _ _ _
    (rw (c.track.ensures, c.sector.ensures) refl) (c.write.ensures.writes plain done)
