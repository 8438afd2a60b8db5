-- The bytes that are passed on were looked at.
use Rattle.std.proofs.Common.{List, rules, subst, ℕ}
use Rattle.std.specs.Prelude.{vec_items}
use Rattle.image_log.specs.life.Tags.{SaysLogAway}
use Rattle.shop_jobs.proofs.ServiceBegun.{sectors_flat}
use Rattle.shop_jobs.proofs.serving_logs.landed_bytes.Goals as goal

pub returns-clause-whole : goal.returns-clause-whole
returns-clause-whole g c =
    subst (λ (bytes : List ℕ). ¬ (SaysLogAway bytes)) c.as_slice.ensures.value c.in_ok-see_untagged.ensures.ok

pub returns-clause-sectors : goal.returns-clause-sectors
returns-clause-sectors g c =
    sectors_flat c.args.shop.now (vec_items c.in_ok-bytes.bytes) (search rules) c.requires.sized c.told-shop
