-- The first file may be looked at.
use Rattle.std.proofs.Common.{subst, sym}
use Rattle.std.specs.Prelude.{IfSome}
use Rattle.opened_files.specs.Rights.{MayLookAside}
use Rattle.ledger_jobs.proofs.Lookable.{if-mapped, look-beside}
use Rattle.ledger_jobs.proofs.made_paths.path_of_first.Goals as goal

pub returns : goal.returns
returns g c =
    let may = MayLookAside g.R.HostFiles.rights c.args.rt.now in
    if-mapped c.first_file.result (λ path. path.now) may
    (subst (λ path. IfSome path may) (sym c.first_file.ensures) (look-beside g.R.HostFiles.rights c.args.rt.now c.args.job.now c.requires))
