-- Both changed the same sectors, freed the same, and left as many.
use Rattle.disk_changes.proofs.lemmas.mended.SameRepairs.{count-same, text-same}
use Rattle.disk_changes.proofs.laws.repairs_print_the_same.Goals as goal

pub returns-clause-text : goal.returns-clause-text
returns-clause-text c = text-same

pub returns-clause-left : goal.returns-clause-left
returns-clause-left c = count-same
