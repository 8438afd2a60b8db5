use Rattle.image_log.specs.Marks.{Covers}
use Rattle.image_log.proofs.life.replacing.changed.Given as goal

abbrev pub invariant-loop-i : goal.invariant-loop-i
invariant-loop-i l = Covers l.changed l.now l.shop
