-- The write that fails, and is done, is the one that the disk beneath was handed.
use Rattle.std.proofs.Common.{subst}
use Rattle.d64_image.specs.OneFaults.{Reaches}
use Rattle.d64_image.proofs.one_fault.OneFaultSectors.write.Goals as goal

pub returns-then-hit-2-clause-reaches : goal.returns-then-hit-2-clause-reaches
returns-then-hit-2-clause-reaches g c = λ due done. subst
    (λ (beneath : g.row.D.Denot). Reaches g.D.Sectors.history beneath c.write-answer.new.self c.args.place
    c.args.from.now)
    c.is_hit-hit.ensures.disk
    (record { answer = c.write-answer.result; written = c.write-answer.ensures })
