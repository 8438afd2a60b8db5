-- One of its names is none.
use Rattle.std.proofs.Common.{refl}
use Rattle.std.specs.Prelude.{codes}
use Rattle.ledger_cli.specs.Names.NameUse.{Given, Had}
use Rattle.ledger_cli.proofs.Parses.{name-refused}
use Rattle.ledger_cli.proofs.change_jobs.rename_job.Goals as goal

pub returns-in_err-from : goal.returns-in_err-from
returns-in_err-from c = name-refused (codes "rename") _ 0 Had _ _ _ _ refl c.value_of.ensures c.in_err-from.ensures
    c.from_residual.ensures.1

pub returns-in_err-to : goal.returns-in_err-to
returns-in_err-to c = name-refused (codes "rename") _ 1 Given _ _ _ _ refl c.value_of-2.ensures c.in_err-to.ensures
    c.from_residual-in_err-to.ensures.1
