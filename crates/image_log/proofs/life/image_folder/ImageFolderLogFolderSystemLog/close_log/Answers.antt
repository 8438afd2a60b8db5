-- The log's file is closed, in the folder without the tag of IMAGE.
use Rattle.std.proofs.Common.{◌≡◌, ◌∙◌, refl}
use Rattle.std.proofs.lemmas.Bool.{false≢true}
use Rattle.image_log.proofs.lemmas.life.Times.{on_ok}
use Rattle.image_log.proofs.lemmas.life.Asked.{kept_open, returned}
use Rattle.image_log.proofs.lemmas.life.Failing.{failing, not_ok}
use Rattle.image_log.proofs.life.image_folder.ImageFolderLogFolderSystemLog.close_log.Goals as goal

pub returns-in_err-return_log-clause-returned : goal.returns-in_err-return_log-clause-returned
returns-in_err-return_log-clause-returned g c =
    kept_open (λ f. f.at) (λ f. f.checks.failed) (g.R.HostLogs.folders _ _ _) (λ l. l.file) (λ l. l.checks.failed) g.R.HostLogs.logs _ _ _ _
    c.from_residual.result refl c.from_residual.ensures.0 c.in_err-return_log.ensures

pub returns-in_err-take-clause-returned : goal.returns-in_err-take-clause-returned
returns-in_err-take-clause-returned g c =
    returned (λ f. f.at) (λ f. f.checks.failed) (g.R.HostLogs.folders _ _ _) (λ l. l.file) (λ l. l.checks.failed) g.R.HostLogs.logs _ _ _
    c.from_residual-in_err-take.result (failing _ c.from_residual-in_err-take.result c.in_err-take.ensures.counted.failed)
    (not_ok _ c.from_residual-in_err-take.result c.from_residual-in_err-take.ensures.0)
    (λ lost. c.in_err-take.ensures.counted.failed) c.in_ok-return_log.ensures

pub returns-clause-returned : goal.returns-clause-returned
returns-clause-returned g c =
    returned (λ f. f.at) (λ f. f.checks.failed) (g.R.HostLogs.folders _ _ _) (λ l. l.file) (λ l. l.checks.failed) g.R.HostLogs.logs _ _ _ c.see_file.result
    c.see_file.ensures.counted.failed
    (on_ok (c.see_file.new.self.failed ≡ c.take.new.self.failed) (c.see_file.new.self.failed ≡ c.args.self.now.checks.failed)
    c.see_file.result (λ is. is ∙ c.in_ok-take.ensures.counted.passed) c.see_file.ensures.counted.passed)
    (λ lost. absurd (false≢true (c.in_ok-take.ensures.failed lost))) c.in_ok-return_log.ensures
