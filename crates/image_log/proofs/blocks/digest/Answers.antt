use Rattle.std.proofs.Common.{refl, ap, ◌∙◌}
use Rattle.sha2.specs.Sha256.{sha256}
use Rattle.image_log.proofs.Sealed.{behind_is}
use Rattle.image_log.proofs.blocks.digest.Goals as goal

pub returns : goal.returns
returns c = c.digest.ensures ∙ ap sha256 (behind_is c.args.block.now 4086 c.told-block refl)
