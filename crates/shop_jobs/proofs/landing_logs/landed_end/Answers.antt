-- The log was landed, or couldn't be.
use Rattle.std.proofs.Common.{inl, refl, rules, subst, sym}
use Rattle.opened_files.specs.Ends.{JobEnd}
use Rattle.shop_jobs.proofs.Unlanded.{IsUnlanded, unlanded_is}
use Rattle.shop_jobs.proofs.landing_logs.landed_end.Goals as goal

pub returns-in-Ok : goal.returns-in-Ok
returns-in-Ok g c = record {
  left = search rules;
  tried = λ e. refl;
  landed = search rules;
  moments = c.end-folder.ensures.any_moment;
  told = inl refl;
}

pub returns-in-Err : goal.returns-in-Err
returns-in-Err g c =
    let is = subst (λ (j : JobEnd). IsUnlanded c.args.ended j) (sym c.unlanded.ensures)
    (unlanded_is c.args.ended c.in-Err.fault) in
    record {
      left = search rules;
      tried = λ e. refl;
      landed = λ image stands out. absurd (is.out out);
      moments = c.end-folder.ensures.any_moment;
      told = is.told;
    }
