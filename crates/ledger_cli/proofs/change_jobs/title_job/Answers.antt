-- Its name is none.
use Rattle.std.proofs.Common.{refl}
use Rattle.std.specs.Prelude.{codes}
use Rattle.ledger_cli.specs.Names.NameUse.{Had}
use Rattle.ledger_cli.proofs.Parses.{name-refused}
use Rattle.ledger_cli.proofs.change_jobs.title_job.Goals as goal

pub returns-in_err-name : goal.returns-in_err-name
returns-in_err-name c = name-refused (codes "title") _ 0 Had _ _ _ _ refl c.value_of.ensures c.in_err-name.ensures
    c.from_residual.ensures.1
