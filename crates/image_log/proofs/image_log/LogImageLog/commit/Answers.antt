-- A log that isn't full commits.
use Rattle.image_log.proofs.Images.{blamed, leaves_images, over_by, stands_on}
use Rattle.image_log.proofs.image_log.LogImageLog.commit.Goals as goal

pub returns : goal.returns
returns g c =
    let old = c.args.self.now in
    let new = c.commit.new.self in
    let is = c.commit.ensures in
    record {
      ok = stands_on old new c.commit.result _ _ (λ holds before stands covers. (stands.0, holds stands.0 before stands.1 covers)) is.ok;
      any_moment = λ before stands covers. leaves_images old new stands.0 before c.args.now.now (is.any_moment stands.0 before stands.1 covers);
      quiet = is.quiet;
      cause = blamed old new c.commit.result is.cause;
      err = over_by old new c.commit.result is.err;
    }
