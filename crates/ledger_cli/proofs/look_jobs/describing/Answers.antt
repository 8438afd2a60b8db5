-- There is no memory for its images.
use Rattle.ledger_cli.specs.Looks.{object_word}
use Rattle.ledger_cli.proofs.Parses.{memory-refused}
use Rattle.ledger_cli.proofs.look_jobs.describing.Goals as goal

pub returns-in_err-images_of : goal.returns-in_err-images_of
returns-in_err-images_of c = memory-refused (object_word c.args.object) _ _ _ c.in_err-images_of.ensures c.from_residual.ensures.1
