-- What is synced is synced without the tag, and then IMAGE's name is looked at.
use Rattle.std.proofs.Common.{◌∙◌, ap, refl, sym}
use Rattle.image_log.specs.life.Folders.{HasNames}
use Rattle.image_log.proofs.lemmas.life.Failing.{always, not_ok}
use Rattle.image_log.proofs.lemmas.life.Times.{on_ok}
use Rattle.image_log.proofs.lemmas.life.Untagged.{brought, brought_on, checked, failed_before}
use Rattle.image_log.proofs.life.image_folder.ImageFolderLogFolderSystemLog.sync_folder.Goals as goal

pub returns-in_err-sync_folder : goal.returns-in_err-sync_folder
returns-in_err-sync_folder g c =
    let h = g.R.HostLogs.folders _ _ _ in
    let old = c.args.self.now in
    let one = brought (λ f. f.at) (λ f. f.checks.failed) h old
    (record { at = c.sync_folder.new.folder; image = old.image; log = old.log; tags = old.tags; checks = old.checks }) refl HasNames _
    (λ s t is. record { none = is.none; some = is.some; making = is.making }) c.in_err-sync_folder.ensures.brings in
    brought_on (λ f. f.at) (λ f. f.checks.failed) h old
    (record { at = c.sync_folder.new.folder; image = old.image; log = old.log; tags = old.tags; checks = old.checks }) _ HasNames _
    c.from_residual.result refl (not_ok _ c.from_residual.result c.from_residual.ensures.0)
    (failed_before (λ f. f.at) (λ f. f.checks.failed) h old _ c.from_residual.result c.from_residual.ensures.0 one.failures.failed)
    one

pub returns : goal.returns
returns g c =
    let h = g.R.HostLogs.folders _ _ _ in
    let old = c.args.self.now in
    let new = c.see_image.new.self in
    let one = brought (λ f. f.at) (λ f. f.checks.failed) h old
    (record { at = c.sync_folder.new.folder; image = old.image; log = old.log; tags = old.tags; checks = old.checks }) refl HasNames _
    (λ s t is. record { none = is.none; some = is.some; making = is.making }) c.in_ok-sync_folder.ensures.brings in
    let look = checked (λ f. f.at) (λ f. f.checks.failed) h
    (record { at = c.sync_folder.new.folder; image = old.image; log = old.log; tags = old.tags; checks = old.checks }) new
    c.see_image.result (ap h.has_failed c.see_image.ensures.at) c.see_image.ensures.counted.failed c.see_image.ensures.counted.passed in
    brought_on (λ f. f.at) (λ f. f.checks.failed) h old
    (record { at = c.sync_folder.new.folder; image = old.image; log = old.log; tags = old.tags; checks = old.checks }) new HasNames _
    c.see_image.result (sym c.see_image.ensures.at) (always _ c.see_image.result one.ok)
    (record { failed = look.failed; passed = on_ok _ _ c.see_image.result (λ is. is ∙ one.failures.passed) look.passed })
    one
