-- The log's file is opened, in the folder without the tag of IMAGE.
use Rattle.std.proofs.Common.{subst, sym}
use Rattle.image_log.specs.life.Folders.{LogOf}
use Rattle.image_log.proofs.lemmas.life.Asked.{log_of}
use Rattle.image_log.proofs.life.image_folder.ImageFolderLogFolderSystemLog.open_log.Goals as goal

pub returns-clause-file : goal.returns-clause-file
returns-clause-file g c =
    log_of (λ f. f.at) (λ f. f.checks.failed) (g.R.HostLogs.folders _ _ _) (λ l. l.file) (λ l. l.checks.failed) g.R.HostLogs.logs c.args.self.now c.log_of.result
    (subst (LogOf (g.R.HostLogs.folders _ _ _) g.R.HostLogs.logs c.args.self.now.at) (sym c.log_of.ensures)
    c.in_ok-file.ensures.file)
