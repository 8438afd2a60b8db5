-- The other image may be read.
use Rattle.std.proofs.Common.{subst, sym}
use Rattle.std.specs.Prelude.{IfSome}
use Rattle.opened_files.specs.Rights.{MayReadImage}
use Rattle.ledger_jobs.proofs.Lookable.{if-mapped, read-source}
use Rattle.ledger_jobs.proofs.size_lines.source_to_read.Goals as goal

pub returns : goal.returns
returns g c =
    let may = MayReadImage g.R.HostFiles.rights c.args.rt.now in
    if-mapped c.source_file.result (λ path. path.now) may
    (subst (λ path. IfSome path may) (sym c.source_file.ensures) (read-source g.R.HostFiles.rights c.args.rt.now c.args.job.now c.requires))
