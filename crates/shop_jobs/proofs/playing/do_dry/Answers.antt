-- The replies that were printed are those to the script that the host says.
use Rattle.std.specs.Prelude.{vec_items}
use Rattle.shop_jobs.specs.Runs.{IsDryRun}
use Rattle.opened_files.proofs.HostFiles.{over-text}
use Rattle.shop_jobs.proofs.playing.do_dry.Goals as goal

pub returns : goal.returns
returns g c =
    over-text g.R.HostFiles.stands c.args.rt.now c.args.path.now c.args.out.now c.dry_run.new.out c.dry_run.result
    (vec_items c.in_ok-script.script) c.as_slice.result.now
    (λ script. IsDryRun g.W.Write.contents script c.args.out.now c.dry_run.new.out c.dry_run.result)
    c.in_ok-script.ensures.read c.as_slice.ensures.value c.dry_run.ensures
