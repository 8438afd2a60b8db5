-- The first file may be read.
use Rattle.std.proofs.Common.{subst, sym}
use Rattle.std.specs.Prelude.{IfSome}
use Rattle.opened_files.specs.Rights.{MayReadImage}
use Rattle.ledger_jobs.proofs.Lookable.{if-mapped, read-first}
use Rattle.ledger_jobs.proofs.size_lines.missized_of.Goals as goal

pub returns-in_default : goal.returns-in_default
returns-in_default g c =
    let reads = MayReadImage g.R.HostFiles.rights c.args.rt.now in
    if-mapped c.first_file.result (λ path. path.now) reads
    (subst (λ path. IfSome path reads) (sym c.first_file.ensures)
    (read-first g.R.HostFiles.rights c.args.rt.now c.args.job.now c.requires))
