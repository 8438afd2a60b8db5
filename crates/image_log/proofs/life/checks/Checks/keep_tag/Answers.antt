-- The tag is kept.
use Rattle.image_log.proofs.life.checks.Checks.keep_tag.Goals as goal

pub returns-then-keep_tag-clause-kept : goal.returns-then-keep_tag-clause-kept
returns-then-keep_tag-clause-kept c = c.keep_tag.ensures.kept c.if-keep_tag.true
