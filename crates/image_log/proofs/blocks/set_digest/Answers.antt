use Rattle.std.proofs.Common.{rules}
use Rattle.std.proofs.lemmas.Slice.{overwrites}
use Rattle.image_log.proofs.blocks.set_digest.Goals as goal

pub returns-clause-digest : goal.returns-clause-digest
unfolding Rattle.image_log.specs.Blocks.part
returns-clause-digest c = search (rules, overwrites)

pub returns-clause-behind : goal.returns-clause-behind
returns-clause-behind c = search (rules, overwrites)
