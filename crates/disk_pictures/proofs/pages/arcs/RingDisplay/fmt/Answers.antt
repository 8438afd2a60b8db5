-- Where the dash begins.
use Rattle.std.proofs.Common.{refl}
use Rattle.std.proofs.Output.{has_written_of_eq}
use Rattle.disk_pictures.specs.Pictures.{ring_text}
use Rattle.disk_pictures.proofs.pages.arcs.RingDisplay.fmt.Goals as goal

pub returns-clause-writes : goal.returns-clause-writes
unfolding ring_text
returns-clause-writes g c = λ plain done. has_written_of_eq _ _ _ _ _
    (rw (c.arc_length-length.ensures.value, c.sector.ensures) refl) (c.write.ensures.writes plain done)
