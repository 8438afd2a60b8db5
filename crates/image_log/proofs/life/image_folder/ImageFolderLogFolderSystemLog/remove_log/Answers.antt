-- The log is removed, in the folder without the tag of IMAGE.
use Rattle.std.proofs.Common.{ap, inl, inr, refl, ⊎_elim}
use Rattle.image_log.specs.life.Folders.{IsRemoving, Same, unlogged}
use Rattle.image_log.specs.life.Untagged.{untagged_folder}
use Rattle.image_log.proofs.lemmas.life.Composed.{behind, early, past, refused, undone}
use Rattle.image_log.proofs.lemmas.life.Untagged.{alike}
use Rattle.image_log.proofs.life.image_folder.ImageFolderLogFolderSystemLog.remove_log.Goals as goal

pub returns-in_err-see_log-clause-acts : goal.returns-in_err-see_log-clause-acts
returns-in_err-see_log-clause-acts g c =
    undone (λ f. f.at) (λ f. f.checks.failed) (g.R.HostLogs.folders _ _ _) c.args.self.now _ unlogged IsRemoving c.from_residual.result refl
    c.from_residual.ensures.0 c.in_err-see_log.ensures.failed (λ s. inl refl)

pub returns-in_err-take_off-clause-acts : goal.returns-in_err-take_off-clause-acts
returns-in_err-take_off-clause-acts g c =
    early (λ f. f.at) (λ f. f.checks.failed) (g.R.HostLogs.folders _ _ _) c.args.self.now _ unlogged IsRemoving _ c.from_residual-in_err-take_off.result refl
    c.from_residual-in_err-take_off.ensures.0 (λ s. inl refl)
    (past (λ f. f.at) (λ f. f.checks.failed) (g.R.HostLogs.folders _ _ _) c.args.self.now _ _ (λ s. s) Same _ refl c.in_ok-see_log.ensures.passed
    c.in_err-take_off.ensures.acts)

pub returns-in_err-see_log-2-clause-acts : goal.returns-in_err-see_log-2-clause-acts
returns-in_err-see_log-2-clause-acts g c =
    let h = g.R.HostLogs.folders _ _ _ in
    let told = c.from_residual-in_err-see_log-2.result in
    let err = c.from_residual-in_err-see_log-2.ensures.0 in
    let off = past (λ f. f.at) (λ f. f.checks.failed) h c.args.self.now _ c.take_off.new.self (λ s. s) Same _ refl c.in_ok-see_log.ensures.passed
    c.in_ok-take_off.ensures.acts in
    early (λ f. f.at) (λ f. f.checks.failed) h c.args.self.now _ unlogged IsRemoving told told err err (λ s. inl refl)
    (refused (λ f. f.at) (λ f. f.checks.failed) h c.args.self.now c.take_off.new.self _ (λ s. s) Same _ told refl err
    c.in_err-see_log-2.ensures.failed off)

pub returns-clause-acts : goal.returns-clause-acts
returns-clause-acts g c =
    let h = g.R.HostLogs.folders _ _ _ in
    let off = past (λ f. f.at) (λ f. f.checks.failed) h c.args.self.now _ c.take_off.new.self (λ s. s) Same _ refl c.in_ok-see_log.ensures.passed
    c.in_ok-take_off.ensures.acts in
    behind (λ f. f.at) (λ f. f.checks.failed) h c.args.self.now c.take_off.new.self _ unlogged IsRemoving _ c.remove_log.result off.ok off.failures.passed off
    (alike (λ f. f.at) (λ f. f.checks.failed) h c.take_off.new.self _ c.in_ok-see_log-2.ensures.passed unlogged IsRemoving c.remove_log.result (λ s. refl)
    (λ from s is. ⊎_elim (λ same. inl (ap untagged_folder same)) (λ gone. inr (ap untagged_folder gone)) is)
    c.remove_log.ensures.acts)
