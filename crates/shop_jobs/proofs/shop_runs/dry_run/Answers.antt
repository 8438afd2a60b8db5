-- How the run ended is how its command did.
use Rattle.std.specs.Io.KnownBytes.{Appends}
use Rattle.shop_commands.specs.DryRuns.{dry_report}
use Rattle.shop_jobs.proofs.DryTold.{dry-printed}
use Rattle.shop_jobs.proofs.shop_runs.dry_run.Goals as goal

pub returns : goal.returns
returns g c =
    let told = g.W.Write.contents in
    dry-printed c.args.out.now c.dry.new.out
    (λ before after. Appends (told before) (told after) (dry_report c.args.script.now)) c.args.script.now c.dry.result
    c.dry_ended.result c.dry_ended.ensures c.dry.ensures.good c.dry.ensures.ok c.dry.ensures.err c.dry.ensures.untouched
