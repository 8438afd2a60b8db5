-- There is no memory for its images.
use Rattle.std.specs.Prelude.{codes}
use Rattle.ledger_cli.proofs.Parses.{memory-refused}
use Rattle.ledger_cli.proofs.look_jobs.plan_job.Goals as goal

pub returns-in_err-images_of : goal.returns-in_err-images_of
returns-in_err-images_of c = memory-refused (codes "plan") _ _ _ c.in_err-images_of.ensures c.from_residual.ensures.1
