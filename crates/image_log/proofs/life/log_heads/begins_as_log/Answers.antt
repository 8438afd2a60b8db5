use Rattle.image_log.proofs.life.log_heads.begins_as_log.Goals as goal

pub returns : goal.returns
unfolding Rattle.image_log.specs.Blocks.part
returns c = c.eq.ensures
