-- Its name is none.
use Rattle.std.proofs.Common.{refl}
use Rattle.std.specs.Prelude.{codes}
use Rattle.ledger_cli.specs.Names.NameUse.{Had}
use Rattle.ledger_cli.proofs.Parses.{name-refused}
use Rattle.ledger_cli.proofs.look_jobs.basic_job.Goals as goal

pub returns-in_err-name_of : goal.returns-in_err-name_of
returns-in_err-name_of c = name-refused (codes "basic") _ 0 Had _ _ _ _ refl c.value_of.ensures c.in_err-name_of.ensures
    c.from_residual.ensures.1
