use Rattle.std.proofs.Common.{◌∙◌}
use Rattle.image_log.proofs.Sealed.{matches_by}
use Rattle.image_log.proofs.blocks.has_digest.Goals as goal

pub returns : goal.returns
unfolding Rattle.image_log.specs.Blocks.part
returns c = c.eq.ensures ∙ matches_by c.args.block.now c.digest.result c.digest.ensures
