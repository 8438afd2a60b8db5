-- One row beside the other.
use Rattle.std.proofs.Common.{refl}
use Rattle.std.proofs.Output.{has_written_of_eq}
use Rattle.disk_pictures.specs.Legends.{fault_told, free_told, legend_start, lost_told, poster_legend, side_told, used_told}
use Rattle.disk_pictures.specs.Pictures.{tracks}
use Rattle.disk_pictures.proofs.pages.legend.LegendDisplay.fmt.Goals as goal

pub returns-clause-writes : goal.returns-clause-writes
unfolding tracks poster_legend legend_start free_told lost_told side_told used_told fault_told
returns-clause-writes g c = λ plain done. has_written_of_eq _ _ _ _ _
    (rw (c.room-free.ensures.is, c.room-lost.ensures.is, c.room-side.ensures.is, c.room-used.ensures.is) refl)
    (c.write.ensures.writes plain done)
