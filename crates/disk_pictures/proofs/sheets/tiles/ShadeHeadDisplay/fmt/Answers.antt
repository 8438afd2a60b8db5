-- The shade.
use Rattle.std.proofs.Common.{refl}
use Rattle.std.proofs.Output.{has_written_of_eq}
use Rattle.disk_pictures.specs.Sheets.{shade_head}
use Rattle.disk_pictures.proofs.sheets.tiles.ShadeHeadDisplay.fmt.Goals as goal

pub returns-clause-writes : goal.returns-clause-writes
unfolding shade_head
returns-clause-writes g c = λ plain done. has_written_of_eq _ _ _ _ _
    refl (c.write.ensures.writes plain done)
