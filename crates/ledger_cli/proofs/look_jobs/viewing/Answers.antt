-- There is no memory for its images.
use Rattle.ledger_cli.specs.Looks.{word_of}
use Rattle.ledger_cli.proofs.Parses.{memory-refused}
use Rattle.ledger_cli.proofs.look_jobs.viewing.Goals as goal

pub returns-in_err-images : goal.returns-in_err-images
returns-in_err-images c = memory-refused (word_of c.args.what) _ _ _ c.in_err-images.ensures c.from_residual.ensures.1
