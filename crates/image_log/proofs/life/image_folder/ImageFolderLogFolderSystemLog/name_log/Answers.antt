-- The log is named, in the folder without the tag of IMAGE.
use Rattle.std.proofs.Common.{List, ap, inl, inr, refl, ℕ, ⊎_elim}
use Rattle.std.specs.Prelude.{Some}
use Rattle.image_log.specs.life.Folders.{Folder, IsNaming, named}
use Rattle.image_log.specs.life.Tags.{untagged_image}
use Rattle.image_log.specs.life.Untagged.{untagged_folder}
use Rattle.image_log.proofs.lemmas.life.Composed.{answered, handed_on, undone}
use Rattle.image_log.proofs.lemmas.life.Failing.{failing, or_right}
use Rattle.image_log.proofs.lemmas.life.Untagged.{alike}
use Rattle.image_log.proofs.life.image_folder.ImageFolderLogFolderSystemLog.name_log.Goals as goal

step : (f : List ℕ) (from s : Folder) → IsNaming f from s → IsNaming f (untagged_folder from) (untagged_folder s)
step f from s naming = record {
  image = ap untagged_image naming.image;
  is = ⊎_elim (λ same. inl (ap untagged_folder same)) (λ done. inr done) naming.is;
}

pub returns-in_err-see_log-clause-acts : goal.returns-in_err-see_log-clause-acts
returns-in_err-see_log-clause-acts g c f held only =
    undone (λ f. f.at) (λ f. f.checks.failed) (g.R.HostLogs.folders _ _ _) c.args.self.now _ (named f) (IsNaming f) c.from_residual.result refl
    c.from_residual.ensures.0 c.in_err-see_log.ensures.failed (λ s. record { image = refl; is = inl refl })

pub returns-in_err-name_log-clause-acts : goal.returns-in_err-name_log-clause-acts
returns-in_err-name_log-clause-acts g c f held only =
    handed_on (λ f. f.at) (λ f. f.checks.failed) (g.R.HostLogs.folders _ _ _) _ _ (named f) (IsNaming f) _ _ refl c.from_residual-in_err-name_log.ensures.0
    (alike (λ f. f.at) (λ f. f.checks.failed) (g.R.HostLogs.folders _ _ _) c.args.self.now _ c.in_ok-see_log.ensures.passed (named f) (IsNaming f) _ (λ s. refl)
    (step f) (c.in_err-name_log.ensures.acts f held only))

pub returns-clause-acts : goal.returns-clause-acts
returns-clause-acts g c f held only =
    let one = alike (λ f. f.at) (λ f. f.checks.failed) (g.R.HostLogs.folders _ _ _) c.args.self.now
    (record { at = c.name_log.new.folder; image = c.args.self.now.image; log = Some c.args.file.now.identity; tags = c.args.self.now.tags; checks = c.see_log.new.self })
    c.in_ok-see_log.ensures.passed (named f) (IsNaming f) _ (λ s. refl) (step f) (c.in_ok-name_log.ensures.acts f held only) in
    answered (λ f. f.at) (λ f. f.checks.failed) (g.R.HostLogs.folders _ _ _) _ _ _ (named f) (IsNaming f) _ _ refl one.ok
    (record { failed = tt; passed = one.failures.passed }) one

pub returns-in_err-name_log-clause-cause : goal.returns-in_err-name_log-clause-cause
returns-in_err-name_log-clause-cause g c =
    failing _ c.from_residual-in_err-name_log.result (or_right c.see_log.new.self.failed _ c.in_err-name_log.ensures.cause)
