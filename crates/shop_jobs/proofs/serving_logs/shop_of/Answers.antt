-- The folder gave an image, and gives no other.
use Rattle.std.proofs.Common.{[], ◌∷◌}
use Rattle.shop_jobs.proofs.serving_logs.shop_of.Goals as goal

pub returns-in-Ok-clause-shop : goal.returns-in-Ok-clause-shop
returns-in-Ok-clause-shop g c = λ image s held gives left. c.in-Ok.ensures.ok (image ∷ []) s held gives left

pub returns-in-Ok-clause-any_moment : goal.returns-in-Ok-clause-any_moment
returns-in-Ok-clause-any_moment g c = λ image s held gives left. c.land_in.ensures.any_moment (image ∷ []) s held gives left

pub returns-in-Err-clause-any_moment : goal.returns-in-Err-clause-any_moment
returns-in-Err-clause-any_moment g c = λ image s held gives left. c.land_in.ensures.any_moment (image ∷ []) s held gives left
