-- The log of a service is landed.
use Rattle.std.proofs.Common.{subst}
use Rattle.opened_files.specs.Ends.{JobEnd}
use Rattle.shop_jobs.specs.LandedRuns.{IsLandedEnd}
use Rattle.shop_jobs.proofs.serving_logs.serve_begun.Goals as goal

pub returns : goal.returns
returns g c = (
  c.has_gone.result,
  c.has_gone.ensures,
  record {
    left = c.serve_logged.new.log;
    ended = c.run_end-ended.result;
    done = (c.serve_logged.result, c.run_end-ended.ensures, c.serve_logged.ensures.run);
    landed = subst (λ (e : JobEnd). IsLandedEnd g.D.LogFolder.history c.serve_logged.new.log e
        c.landed_end.result.0 c.landed_end.result.1) c.served_end.ensures c.landed_end.ensures;
  },
)
