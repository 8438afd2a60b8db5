-- One of its names is none.
use Rattle.std.proofs.Common.{refl}
use Rattle.std.specs.Prelude.{codes}
use Rattle.ledger_cli.specs.Names.NameUse.{Given, Had}
use Rattle.ledger_cli.proofs.Parses.{name-refused}
use Rattle.ledger_cli.proofs.change_jobs.copy_file_job.Goals as goal

pub returns-in_err-name : goal.returns-in_err-name
returns-in_err-name c = name-refused (codes "copy-file") _ 0 Had _ _ _ _ refl c.value_of.ensures c.in_err-name.ensures
    c.from_residual.ensures.1

pub returns-in_err-to : goal.returns-in_err-to
returns-in_err-to c = name-refused (codes "copy-file") _ 1 Given _ _ _ _ refl c.copy_name.ensures c.in_err-to.ensures
    c.from_residual-in_err-to.ensures.1
