-- Stored records are so, and of such nothing is printed.
use Rattle.disk_changes.proofs.lemmas.lines.Again.{so-again, so-unprinted}
use Rattle.disk_changes.proofs.laws.stored_records_are_so.Goals as goal

pub returns-clause-so : goal.returns-clause-so
returns-clause-so c = so-again

pub returns-clause-unprinted : goal.returns-clause-unprinted
returns-clause-unprinted c = so-unprinted
