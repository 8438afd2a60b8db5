-- There is no memory for its images.
use Rattle.std.specs.Prelude.{codes}
use Rattle.ledger_cli.proofs.Parses.{memory-refused}
use Rattle.ledger_cli.proofs.look_jobs.check_job.Goals as goal

pub returns-in_err-images : goal.returns-in_err-images
returns-in_err-images c = memory-refused (codes "check") _ _ _ c.in_err-images.ensures c.from_residual.ensures.1
