-- The disk's name, the style and the dashes.
use Rattle.std.proofs.Common.{refl}
use Rattle.std.proofs.Output.{has_written_of_eq}
use Rattle.disk_pictures.specs.Pictures.{dashes}
use Rattle.disk_pictures.specs.Posters.{paper, poster_begin, poster_head, poster_style}
use Rattle.disk_pictures.proofs.pages.poster.HeadDisplay.fmt.Goals as goal

pub returns-clause-writes : goal.returns-clause-writes
unfolding dashes paper poster_begin poster_style poster_head
returns-clause-writes g c = λ plain done. has_written_of_eq _ _ _ _ _
    (rw (c.disk_name-bytes.ensures) refl) (c.write.ensures.writes plain done)
