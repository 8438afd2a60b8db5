-- A log in the making is closed, in the folder without the tag of IMAGE.
use Rattle.std.proofs.Common.{◌≡◌, ap, true}
use Rattle.image_log.proofs.lemmas.life.Failing.{at_err}
use Rattle.image_log.proofs.lemmas.life.Untagged.{given_up}
use Rattle.image_log.proofs.life.image_folder.ImageFolderLogFolderSystemLog.leave_making.Goals as goal

pub returns : goal.returns
returns g c = given_up (λ f. f.at) (λ f. f.checks.failed) (g.R.HostLogs.folders _ _ _) _ _ c.args.file.checks.failed (g.R.HostLogs.logs.has_failed c.args.file.file)
    (λ lost. at_err (c.take.new.self.failed ≡ true) c.take.result (c.take.ensures.failed lost) c.take.ensures.counted.failed)
    (λ fine. ap (λ k. k.failed) (c.take.ensures.passed fine)) c.leave_making.ensures
