-- The sector is written with the tag, if that is there.
use Rattle.std.proofs.Common.{refl, subst}
use Rattle.image_log.specs.life.Folders.{IsImageWritten, with_sector}
use Rattle.image_log.specs.life.Tags.{IsTagged}
use Rattle.image_log.proofs.lemmas.life.Mixed.{unwritten}
use Rattle.image_log.proofs.lemmas.life.Times.{on_ok}
use Rattle.image_log.proofs.lemmas.life.Told.{written}
use Rattle.image_log.proofs.lemmas.life.Composed.{undone}
use Rattle.image_log.proofs.lemmas.life.Untagged.{kept_written}
use Rattle.image_log.proofs.life.image_folder.ImageFolder.write_over.Goals as goal

pub returns-in_err-keep_tag-clause-acts : goal.returns-in_err-keep_tag-clause-acts
returns-in_err-keep_tag-clause-acts g c =
    undone (λ f. f.at) (λ f. f.checks.failed) (g.R.HostLogs.folders _ _ _) c.args.self.now _ (with_sector 357 c.args.sector.now)
    (IsImageWritten 357 c.args.sector.now) _ refl c.from_residual.ensures.0 c.in_err-keep_tag.ensures.counted.failed
    (unwritten 357 c.args.sector.now)

pub returns-clause-acts : goal.returns-clause-acts
returns-clause-acts g c =
    kept_written (λ f. f.at) (λ f. f.checks.failed) (g.R.HostLogs.folders _ _ _) c.args.self.now _ c.in_ok-keep_tag.ensures.counted.passed c.args.before.now
    c.keep_tag.new.sector c.args.sector.now c.write_sector.result c.told-before c.requires.left c.requires.held
    c.in_ok-keep_tag.ensures.is c.in_ok-keep_tag.ensures.torn c.write_sector.ensures.acts

pub returns-clause-kept : goal.returns-clause-kept
returns-clause-kept g c = on_ok _ _ c.write_sector.result
    (λ ok s held. (
      with_sector 357 c.keep_tag.new.sector s,
      ok s held,
      λ tagged. written IsTagged c.args.before.now c.keep_tag.new.sector s (c.requires.held s held) c.told-before
          (c.in_ok-keep_tag.ensures.kept (subst IsTagged (c.requires.held s held) tagged)),
    ))
    c.write_sector.ensures.acts.ok
