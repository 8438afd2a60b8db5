-- Several paths.
use Rattle.std.proofs.Common.{refl}
use Rattle.ledger_cli.proofs.dashes.read_dashes.Goals as goal

pub returns-in-Sheet-clause-read : goal.returns-in-Sheet-clause-read
returns-in-Sheet-clause-read c = rw c.in-Sheet.is (c.read_paths.result, c.read_paths.ensures, refl)

pub returns-in-Describe-clause-read : goal.returns-in-Describe-clause-read
returns-in-Describe-clause-read c = rw c.in-Describe.is (c.read_paths-in-Describe.result, c.read_paths-in-Describe.ensures, refl)

pub returns-in-Several-clause-read : goal.returns-in-Several-clause-read
returns-in-Several-clause-read c = rw c.in-Several.is (c.read_paths-in-Several.result, c.read_paths-in-Several.ensures, refl)
