-- Of what the folder holds nothing changes.
use Rattle.std.proofs.Common.{◌≡◌, ◌∙◌, [], ap, inl, refl}
use Rattle.std.specs.Prelude.{slice_index_or}
use Rattle.d64_image.specs.Images.{Image}
use Rattle.image_log.specs.life.Folders.{HasImage, Same, with_sector}
use Rattle.image_log.specs.life.Tags.{untagged_image}
use Rattle.image_log.proofs.lemmas.life.Times.{on_ok}
use Rattle.image_log.proofs.lemmas.life.Told.{written}
use Rattle.image_log.proofs.lemmas.life.Composed.{behind, early, synced}
use Rattle.image_log.proofs.lemmas.life.Untagged.{brought, tag_written}
use Rattle.image_log.proofs.life.image_folder.ImageFolder.change_tag.Goals as goal

pub returns-in_err-write_sector-clause-acts : goal.returns-in_err-write_sector-clause-acts
returns-in_err-write_sector-clause-acts g c =
    early (λ f. f.at) (λ f. f.checks.failed) (g.R.HostLogs.folders _ _ _) c.args.self.now _ (λ s. s) Same _ c.from_residual.result refl
    c.from_residual.ensures.0 (λ s. refl)
    (tag_written (λ f. f.at) (λ f. f.checks.failed) (g.R.HostLogs.folders _ _ _) c.args.self.now _ refl c.args.before.now c.args.sector.now _
    c.told-before c.told-sector c.requires.left c.requires.held c.requires.tag c.in_err-write_sector.ensures.acts)

pub returns-clause-acts : goal.returns-clause-acts
returns-clause-acts g c =
    let h = g.R.HostLogs.folders _ _ _ in
    let one = tag_written (λ f. f.at) (λ f. f.checks.failed) h c.args.self.now
    (record { at = c.write_sector.new.folder; image = c.args.self.now.image; log = c.args.self.now.log; tags = c.args.self.now.tags; checks = c.args.self.now.checks })
    refl c.args.before.now c.args.sector.now _ c.told-before c.told-sector c.requires.left c.requires.held c.requires.tag
    c.in_ok-write_sector.ensures.acts in
    behind (λ f. f.at) (λ f. f.checks.failed) h c.args.self.now
    (record { at = c.write_sector.new.folder; image = c.args.self.now.image; log = c.args.self.now.log; tags = c.args.self.now.tags; checks = c.args.self.now.checks })
    _ (λ s. s) Same _ c.sync_image.result one.ok one.failures.passed one
    (synced (λ f. f.at) (λ f. f.checks.failed) h _ _ HasImage c.sync_image.result
    (brought (λ f. f.at) (λ f. f.checks.failed) h _ _ refl HasImage c.sync_image.result (λ s t is. ap untagged_image is) c.sync_image.ensures.brings))

pub returns-clause-is : goal.returns-clause-is
returns-clause-is g c = on_ok _ _ c.sync_image.result
    (λ left s held.
    let set = c.in_ok-write_sector.ensures.acts.ok s held in (
      with_sector 357 c.args.sector.now s,
      c.sync_image.ensures.brings.held ∙ set,
      written (λ bytes. bytes ≡ c.args.sector.now) c.args.before.now c.args.sector.now s (c.requires.held s held) c.told-before refl,
      inl (λ u may. ap (λ (image : Image). slice_index_or image 357 []) (left (with_sector 357 c.args.sector.now s) set u may)),
    ))
    c.sync_image.ensures.brings.ok
