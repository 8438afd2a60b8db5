-- The paths, the first disk's name, what a check of it reports, and how many sectors differ.
use Rattle.std.proofs.Common.{refl}
use Rattle.std.proofs.Output.{has_written_of_eq}
use Rattle.disk_pictures.specs.ComparedPages.{compared_head, compared_legend, compared_text}
use Rattle.disk_pictures.specs.Pictures.{tracks}
use Rattle.disk_pictures.proofs.comparison.comparing.ComparedTextDisplay.fmt.Goals as goal

pub returns-clause-writes : goal.returns-clause-writes
unfolding tracks compared_head compared_legend compared_text
returns-clause-writes g c = λ plain done. has_written_of_eq _ _ _ _ _
    (rw (c.as_bytes.ensures.value, c.as_bytes-2.ensures.value, c.disk_name.ensures, c.count.ensures) refl) (c.write.ensures.writes plain done)
