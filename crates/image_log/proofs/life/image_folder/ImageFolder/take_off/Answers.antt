-- The tag is taken off IMAGE, of which nothing else changes.
use Rattle.std.proofs.Common.{◌∙◌, refl, subst, sym}
use Rattle.std.proofs.lemmas.Bool.{false≢true}
use Rattle.image_log.specs.life.Folders.{LeavesSector, Same}
use Rattle.image_log.specs.life.Tags.{IsTagged}
use Rattle.image_log.proofs.lemmas.life.Times.{on_ok}
use Rattle.image_log.proofs.lemmas.life.Told.{not_on}
use Rattle.image_log.proofs.lemmas.life.Composed.{answered, behind}
use Rattle.image_log.proofs.lemmas.life.Untagged.{looked}
use Rattle.image_log.proofs.life.image_folder.ImageFolder.take_off.Goals as goal

pub change_tag-requires-clause-held : goal.change_tag-requires-clause-held
change_tag-requires-clause-held g c = c.in_ok-before.ensures.sector

pub change_tag-requires-clause-tag : goal.change_tag-requires-clause-tag
change_tag-requires-clause-tag g c = c.take_tag.ensures.torn c.if-take_tag.true

pub returns-then-take_tag-clause-acts : goal.returns-then-take_tag-clause-acts
returns-then-take_tag-clause-acts g c =
    let h = g.R.HostLogs.folders _ _ _ in
    let one = looked (λ f. f.at) (λ f. f.checks.failed) h c.args.self.now
    (record { at = c.read_synced.new.folder; image = c.args.self.now.image; log = c.args.self.now.log; tags = c.args.self.now.tags; checks = c.args.self.now.checks }) refl _
    c.in_ok-before.ensures.acts in
    behind (λ f. f.at) (λ f. f.checks.failed) h c.args.self.now
    (record { at = c.read_synced.new.folder; image = c.args.self.now.image; log = c.args.self.now.log; tags = c.args.self.now.tags; checks = c.args.self.now.checks }) _ (λ s. s) Same _
    c.change_tag.result one.ok one.failures.passed one c.change_tag.ensures.acts

pub returns-clause-acts : goal.returns-clause-acts
returns-clause-acts g c =
    let h = g.R.HostLogs.folders _ _ _ in
    let one = looked (λ f. f.at) (λ f. f.checks.failed) h c.args.self.now
    (record { at = c.read_synced.new.folder; image = c.args.self.now.image; log = c.args.self.now.log; tags = c.args.self.now.tags; checks = c.args.self.now.checks }) refl _
    c.in_ok-before.ensures.acts in
    answered (λ f. f.at) (λ f. f.checks.failed) h c.args.self.now _ _ (λ s. s) Same _ _ refl one.ok (record { failed = tt; passed = one.failures.passed }) one

pub returns-then-take_tag-clause-untagged : goal.returns-then-take_tag-clause-untagged
returns-then-take_tag-clause-untagged g c = on_ok _ _ c.change_tag.result
    (λ is s held.
    let u = is s (c.in_ok-before.ensures.acts.ok s held) in (
      u.0,
      u.1,
      λ tagged. not_on c.in_ok-before.before (c.take_tag.ensures.told.0 c.if-take_tag.true)
          (subst IsTagged (u.2 ∙ c.take_tag.ensures.is) tagged),
      u.3,
    ))
    c.change_tag.ensures.is

pub returns-clause-untagged : goal.returns-clause-untagged
returns-clause-untagged g c s held =
    let now = c.in_ok-before.ensures.acts.ok s held in (
      s,
      now,
      λ tagged. absurd (false≢true (sym c.if-take_tag.false
          ∙ c.take_tag.ensures.told.1 (subst IsTagged (c.in_ok-before.ensures.sector s now) tagged))),
      subst (LeavesSector (g.R.HostLogs.folders _ _ _) c.read_synced.new.folder 357) (sym (c.in_ok-before.ensures.sector s now)) c.in_ok-before.ensures.left,
    )
