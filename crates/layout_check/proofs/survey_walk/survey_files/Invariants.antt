use Rattle.layout_check.proofs.lemmas.finding.Progress.{IsFar}
use Rattle.layout_check.proofs.survey_walk.survey_files.Given as goal

abbrev pub invariant-loop-number : goal.invariant-loop-number
invariant-loop-number g l = IsFar g.D.Sectors.history l.fn.disk l.disk l.slot-items l.number l.owners l.unclean
