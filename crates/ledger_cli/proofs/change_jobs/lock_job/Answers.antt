-- Its name is none.
use Rattle.std.proofs.Common.{◌≡◌, List, Some, [], ◌∷◌, refl}
use Rattle.std.specs.Prelude.{codes}
use Rattle.clap.specs.Words.{Row}
use Rattle.command_table.specs.Grammar.{value}
use Rattle.disk_changes.specs.declared.changes.Lock.{Lock}
use Rattle.disk_changes.specs.declared.changes.Lock.TheVariants.{Cleared, Set}
use Rattle.ledger_cli.specs.Jobs.{lock_word}
use Rattle.ledger_cli.specs.Names.{names_in}
use Rattle.ledger_cli.specs.Names.NameUse.{Had}
use Rattle.ledger_cli.proofs.Parses.{name-refused}
use Rattle.ledger_cli.proofs.change_jobs.lock_job.Goals as goal

-- both words take the name of a file
names : (lock : Lock) (rows : List Row) → names_in (lock_word lock) rows ≡ (Had, value (codes "NAME") rows) ∷ []
names Set rows = refl
names Cleared rows = refl

pub returns-in_err-name : goal.returns-in_err-name
returns-in_err-name c = name-refused (lock_word c.args.lock) _ 0 Had _ _ _ _ (rw (names c.args.lock _) refl) c.value_of.ensures
    c.in_err-name.ensures c.from_residual.ensures.1
