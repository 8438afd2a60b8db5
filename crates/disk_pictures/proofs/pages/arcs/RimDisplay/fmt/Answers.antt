-- The dash and where it begins.
use Rattle.std.proofs.Common.{refl}
use Rattle.std.proofs.Output.{has_written_of_eq}
use Rattle.disk_pictures.specs.Pictures.{rim_mark}
use Rattle.disk_pictures.proofs.pages.arcs.RimDisplay.fmt.Goals as goal

pub returns-clause-writes : goal.returns-clause-writes
unfolding rim_mark
returns-clause-writes g c = λ plain done. has_written_of_eq _ _ _ _ _
    (rw (c.saturating_sub-dash.ensures, c.arc_length.ensures.value) refl) (c.writeln.ensures.writes plain done)
