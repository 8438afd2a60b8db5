-- The log that was begun stands for the image that the folder gave.
use Rattle.std.proofs.Common.{◌∙◌, List, subst, ℕ}
use Rattle.std.specs.Prelude.{vec_items}
use Rattle.image_log.specs.life.HostLogs.{untagged_folders}
use Rattle.opened_files.specs.Losses.{MayBeLost}
use Rattle.shop_jobs.proofs.ServiceBegun.{begun_in}
use Rattle.shop_jobs.proofs.serving_logs.begun_beside.Goals as goal

pub returns-in-Ok-lock_shared-clause-begun : goal.returns-in-Ok-lock_shared-clause-begun
returns-in-Ok-lock_shared-clause-begun g c =
    begun_in (untagged_folders g.R.HostLogs.folders g.R.HostFiles g.F.Read g.F.Seek) _ c.in_ok-folder.folder c.shop_of.new.folder
    c.in_ok-shop.shop.items (vec_items c.in_ok-bytes.bytes) c.in-Ok-begin.log c.in_ok-folder.ensures.at
    (c.in_ok-bytes.ensures.sectors ∙ c.as_slice.ensures.value) c.in_ok-shop.ensures.shop c.shop_of.ensures.any_moment
    c.in-Ok-begin.ensures.stands c.in-Ok-begin.ensures.any_moment

pub returns-in-Ok-lock_shared-clause-whole : goal.returns-in-Ok-lock_shared-clause-whole
returns-in-Ok-lock_shared-clause-whole g c =
    subst (λ (bytes : List ℕ). MayBeLost bytes c.args.cut) c.as_slice-2.ensures.value c.in_ok-see_no_loss.ensures.ok
