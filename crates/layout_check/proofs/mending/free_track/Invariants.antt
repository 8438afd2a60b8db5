use Rattle.layout_check.proofs.lemmas.mending.Makings.{IsMadeTo}
use Rattle.layout_check.proofs.mending.free_track.Given as goal

abbrev pub invariant-loop-sector : goal.invariant-loop-sector
invariant-loop-sector l = IsMadeTo l.fn.map.bytes l.map.bytes l.owners l.track l.sector
