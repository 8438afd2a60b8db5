-- The text may be read again.
use Rattle.std.proofs.Common.{subst, sym}
use Rattle.std.specs.Prelude.{IfSome}
use Rattle.ledger_jobs.specs.JobRights.{MayReadAgain}
use Rattle.ledger_jobs.proofs.Lookable.{if-mapped, read-text}
use Rattle.ledger_jobs.proofs.read_again.text_again.Goals as goal

pub returns : goal.returns
returns g c =
    let reads = MayReadAgain g.R.HostFiles.rights c.args.rt.now in
    if-mapped c.text_file.result (λ path. path.now) reads
    (subst (λ path. IfSome path reads) (sym c.text_file.ensures)
    (read-text g.R.HostFiles.rights c.args.rt.now c.args.job.now c.requires))
