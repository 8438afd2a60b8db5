-- What is said of what was done over the file is said of the job.
use Rattle.std.proofs.Common.{subst, sym}
use Rattle.ledger_cli.specs.Runs.{IsJobRun}
use Rattle.ledger_cli.proofs.running.obey.Goals as goal
use Rattle.ledger_jobs.specs.declared.jobs.Job.{Job}

pub returns-in-Change : goal.returns-in-Change
returns-in-Change g c =
    subst (λ (job : Job). IsJobRun g.F.Seek.stream_position g.F.Seek.stream_bytes g.F.Write.contents g.W.Write.contents job
    c.args.image.now c.args.script.now c.args.file c.change_over.result.0 c.args.out.now c.change_over.new.out c.change_over.result.1)
    (sym c.in-Change.is) c.change_over.ensures
