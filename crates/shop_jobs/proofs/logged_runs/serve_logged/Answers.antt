-- How the run ended is how the service did.
use Rattle.std.proofs.Common.{Ok, refl, subst, sym}
use Rattle.command_faults.specs.declared.faults.CommandFault.{CommandFault}
use Rattle.shop_jobs.specs.LoggedRuns.{IsLoggedFault}
use Rattle.shop_jobs.proofs.Logged.{logged_fault, logged_to, unloaded}
use Rattle.shop_jobs.proofs.logged_runs.serve_logged.Goals as goal

pub returns-in-Err : goal.returns-in-Err
returns-in-Err g c = record {
  run = unloaded g.L.ImageLog.history g.R.BatchSource.input g.T.BatchReplies.output c.args.image.now c.args.log.now c.args.log.now
      c.args.input.now c.args.input.now c.args.out.now c.args.out.now c.in-Err.fault c.in-Err.ensures.err (refl, refl, refl);
}

pub returns-in_default : goal.returns-in_default
returns-in_default g c = record { run = (c.in-Ok.ensures.ok.0, (refl, refl, refl)) }

pub returns-in-Ok-serve_batches : goal.returns-in-Ok-serve_batches
returns-in-Ok-serve_batches g c =
    let loaded = c.in-Ok.ensures.ok in
    record {
      run = logged_to g.L.ImageLog.history g.R.BatchSource.input g.T.BatchReplies.output c.args.image.now c.args.log.now
          c.serve_batches.new.log c.args.input.now c.serve_batches.new.input c.args.out.now c.serve_batches.new.out
          c.in-Ok.disk loaded.0 loaded.1 (λ left. Ok left) c.in-Ok-serve_batches._left c.in-Ok-serve_batches.ensures;
    }

pub returns : goal.returns
returns g c =
    let loaded = c.in-Ok.ensures.ok in
    record {
      run = subst (λ (f : CommandFault). IsLoggedFault g.L.ImageLog.history g.R.BatchSource.input g.T.BatchReplies.output
          c.args.image.now c.args.log.now c.serve_batches.new.log c.args.input.now c.serve_batches.new.input c.args.out.now
          c.serve_batches.new.out f) (sym c.told.ensures)
          (logged_fault g.L.ImageLog.history g.R.BatchSource.input g.T.BatchReplies.output c.args.image.now c.args.log.now
          c.serve_batches.new.log c.args.input.now c.serve_batches.new.input c.args.out.now c.serve_batches.new.out
          c.in-Ok.disk loaded.0 loaded.1 c.in-Err-serve_batches.fault c.in-Err-serve_batches._left
          c.in-Err-serve_batches.ensures);
    }
