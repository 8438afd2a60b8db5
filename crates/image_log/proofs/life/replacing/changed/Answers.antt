-- At first all count as different.
use Rattle.std.proofs.Common.{◌∙◌, sym}
use Rattle.std.proofs.lemmas.Bool.{false≢true}
use Rattle.image_log.proofs.Ends.{all_touched}
use Rattle.image_log.proofs.life.replacing.changed.Goals as goal

pub loop-i-init : goal.loop-i-init
loop-i-init c i low none = absurd (false≢true (sym none ∙ all_touched 683 i low))
