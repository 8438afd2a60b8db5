-- The log's file is opened to be read, in the folder without the tag of IMAGE.
use Rattle.std.proofs.Common.{◌∙◌, ap, subst, sym}
use Rattle.image_log.specs.Readers.{IsOpened}
use Rattle.image_log.specs.life.Folders.{Folder}
use Rattle.image_log.proofs.lemmas.life.Untagged.{raw}
use Rattle.image_log.proofs.life.image_folder.ImageFolderLogFolderSystemLog.read_log.Goals as goal

pub returns-in_ok-know-in-Some-clause-log : goal.returns-in_ok-know-in-Some-clause-log
returns-in_ok-know-in-Some-clause-log g c t held =
    let s = raw ((g.R.HostLogs.folders _ _ _).held c.args.self.now.at) t held in
    let log = subst (λ o. IsOpened g.R.HostLogs.log_bytes o s.0.log) c.in-Some.is (c.in_ok-log.ensures.log s.0 s.1) in
    (log.0, sym (ap (λ (u : Folder). u.log) s.2) ∙ log.1, log.2)

pub returns-in-None-clause-log : goal.returns-in-None-clause-log
returns-in-None-clause-log g c t held =
    let s = raw ((g.R.HostLogs.folders _ _ _).held c.args.self.now.at) t held in
    sym (ap (λ (u : Folder). u.log) s.2)
    ∙ subst (λ o. IsOpened g.R.HostLogs.log_bytes o s.0.log) c.in-None.is (c.in_ok-log.ensures.log s.0 s.1)
