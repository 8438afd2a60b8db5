-- An entry got a place for its first side sector, and the rest was built.
use Rattle.std.proofs.Common.{Ok, ap, inr, ◌∙◌}
use Rattle.disk_changes.proofs.rebuilding.rebuilt.Goals as goal

pub returns-in-Ok-Some-clause-ok : goal.returns-in-Ok-Some-clause-ok
returns-in-Ok-Some-clause-ok c =
    inr (c.named_and_built.ensures c.in-Ok-Some.made (c.in-Ok-Some.is ∙ ap Ok c.in-Ok-Some.field-0-is))
