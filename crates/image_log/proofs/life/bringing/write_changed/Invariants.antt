use Rattle.image_log.proofs.lemmas.life.Brought.{IsBringing}
use Rattle.image_log.proofs.life.bringing.write_changed.Given as goal

abbrev pub invariant-loop-i : goal.invariant-loop-i
invariant-loop-i g l = IsBringing g.D.LogFolder.history l.fn.folder l.folder l.i l.now l.shop
