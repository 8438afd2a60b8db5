-- The path of what is made may be looked at.
use Rattle.std.proofs.Common.{subst, sym}
use Rattle.std.specs.Prelude.{IfSome}
use Rattle.opened_files.specs.Rights.{MayLookAside}
use Rattle.ledger_jobs.proofs.Lookable.{if-mapped, look-made}
use Rattle.ledger_jobs.proofs.made_paths.path_to_make.Goals as goal

pub returns : goal.returns
returns g c =
    let may = MayLookAside g.R.HostFiles.rights c.args.rt.now in
    if-mapped c.made_path.result (λ path. path.now) may
    (subst (λ path. IfSome path may) (sym c.made_path.ensures) (look-made g.R.HostFiles.rights c.args.rt.now c.args.job.now c.requires))
