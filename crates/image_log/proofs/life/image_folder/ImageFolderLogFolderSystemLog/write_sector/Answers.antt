-- A sector is written, 18/0 with the tag if that is there.
use Rattle.std.proofs.Common.{refl, subst, sym, ℕ}
use Rattle.image_log.specs.life.Folders.{Acts, IsImageWritten, with_sector}
use Rattle.image_log.specs.life.Untagged.{untagged_in}
use Rattle.image_log.proofs.lemmas.life.Mixed.{unwritten}
use Rattle.image_log.proofs.lemmas.life.TaggedImages.{other_set, other_step}
use Rattle.image_log.proofs.lemmas.life.Times.{on_ok}
use Rattle.image_log.proofs.lemmas.life.Told.{other_written}
use Rattle.image_log.proofs.lemmas.life.Composed.{behind, early}
use Rattle.image_log.proofs.lemmas.life.Untagged.{alike, looked}
use Rattle.image_log.proofs.life.image_folder.ImageFolderLogFolderSystemLog.write_sector.Goals as goal

pub returns-in_err-before-clause-acts : goal.returns-in_err-before-clause-acts
returns-in_err-before-clause-acts g c =
    early (λ f. f.at) (λ f. f.checks.failed) (g.R.HostLogs.folders _ _ _) c.args.self.now _ (with_sector c.args.index c.args.sector.now)
    (IsImageWritten c.args.index c.args.sector.now) _ c.from_residual.result refl c.from_residual.ensures.0
    (unwritten c.args.index c.args.sector.now)
    (looked (λ f. f.at) (λ f. f.checks.failed) (g.R.HostLogs.folders _ _ _) c.args.self.now _ refl _ c.in_err-before.ensures.acts)

pub returns-then-index-eq-TAGGED-clause-acts : goal.returns-then-index-eq-TAGGED-clause-acts
returns-then-index-eq-TAGGED-clause-acts g c =
    let h = g.R.HostLogs.folders _ _ _ in
    let one = looked (λ f. f.at) (λ f. f.checks.failed) h c.args.self.now
    (record { at = c.read_synced.new.folder; image = c.args.self.now.image; log = c.args.self.now.log; tags = c.args.self.now.tags; checks = c.args.self.now.checks }) refl _
    c.in_ok-before.ensures.acts in
    behind (λ f. f.at) (λ f. f.checks.failed) h c.args.self.now
    (record { at = c.read_synced.new.folder; image = c.args.self.now.image; log = c.args.self.now.log; tags = c.args.self.now.tags; checks = c.args.self.now.checks }) c.write_over.new.self
    (with_sector c.args.index c.args.sector.now) (IsImageWritten c.args.index c.args.sector.now) _ c.write_over.result one.ok one.failures.passed one
    (subst (λ (i : ℕ). Acts (untagged_in (λ f. f.at) (λ f. f.checks.failed) h)
    (record { at = c.read_synced.new.folder; image = c.args.self.now.image; log = c.args.self.now.log; tags = c.args.self.now.tags; checks = c.args.self.now.checks }) c.write_over.new.self
    (with_sector i c.args.sector.now) (IsImageWritten i c.args.sector.now) c.write_over.result) (sym c.if-index-eq-TAGGED.true)
    c.write_over.ensures.acts)

pub returns-clause-acts : goal.returns-clause-acts
returns-clause-acts g c =
    alike (λ f. f.at) (λ f. f.checks.failed) (g.R.HostLogs.folders _ _ _) c.args.self.now _ refl (with_sector c.args.index c.args.sector.now)
    (IsImageWritten c.args.index c.args.sector.now) c.write_sector.result
    (other_set c.args.index c.args.sector.now c.if-index-eq-TAGGED.false) (other_step c.args.index c.args.sector.now c.if-index-eq-TAGGED.false) c.write_sector.ensures.acts

pub returns-clause-kept : goal.returns-clause-kept
returns-clause-kept g c = on_ok _ _ c.write_sector.result
    (λ ok s held. (
      with_sector c.args.index c.args.sector.now s,
      ok s held,
      other_written c.args.index c.args.sector.now s c.if-index-eq-TAGGED.false,
    ))
    c.write_sector.ensures.acts.ok
