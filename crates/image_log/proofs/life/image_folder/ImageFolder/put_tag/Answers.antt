-- The tag is put on IMAGE, of which nothing else changes.
use Rattle.std.proofs.Common.{◌≡◌, ◌∙◌, ℕ, Bool, List, ap, false, not, refl, subst, sym, true}
use Rattle.std.proofs.lemmas.Bool.{false≢true}
use Rattle.std.proofs.lemmas.Slice.Eq.{bytes_eq-Decides}
use Rattle.std.specs.Str.{bytes_eq}
use Rattle.image_log.specs.life.Folders.{LeavesSector, Same}
use Rattle.image_log.specs.life.Tags.{HasTagRoom, IsTagged}
use Rattle.image_log.proofs.lemmas.life.Times.{on_ok}
use Rattle.image_log.proofs.lemmas.life.Told.{put_on}
use Rattle.image_log.proofs.lemmas.life.Composed.{answered, behind}
use Rattle.image_log.proofs.lemmas.life.Untagged.{looked}
use Rattle.image_log.proofs.life.image_folder.ImageFolder.put_tag.Goals as goal

same : (xs ys : List ℕ) → false ≡ not (bytes_eq xs ys) → xs ≡ ys
same xs ys is = step (bytes_eq xs ys) refl
  where
    step : (b : Bool) → bytes_eq xs ys ≡ b → xs ≡ ys
    step true e = (bytes_eq-Decides xs ys).0 e
    step false e = absurd (false≢true (is ∙ ap not e))

pub change_tag-requires-clause-held : goal.change_tag-requires-clause-held
change_tag-requires-clause-held g c = c.in_ok-before.ensures.sector

pub change_tag-requires-clause-tag : goal.change_tag-requires-clause-tag
change_tag-requires-clause-tag g c = c.set_tag.ensures.torn c.if-not-set_tag.false

pub returns-then-ne-clause-acts : goal.returns-then-ne-clause-acts
returns-then-ne-clause-acts g c =
    let h = g.R.HostLogs.folders _ _ _ in
    let one = looked (λ f. f.at) (λ f. f.checks.failed) h c.args.self.now
    (record { at = c.read_synced.new.folder; image = c.args.self.now.image; log = c.args.self.now.log; tags = c.args.self.now.tags; checks = c.args.self.now.checks }) refl _
    c.in_ok-before.ensures.acts in
    behind (λ f. f.at) (λ f. f.checks.failed) h c.args.self.now
    (record { at = c.read_synced.new.folder; image = c.args.self.now.image; log = c.args.self.now.log; tags = c.args.self.now.tags; checks = c.args.self.now.checks }) _ (λ s. s) Same _
    c.change_tag.result one.ok one.failures.passed one c.change_tag.ensures.acts

pub returns-then-not-set_tag-clause-acts : goal.returns-then-not-set_tag-clause-acts
returns-then-not-set_tag-clause-acts g c =
    let h = g.R.HostLogs.folders _ _ _ in
    let one = looked (λ f. f.at) (λ f. f.checks.failed) h c.args.self.now
    (record { at = c.read_synced.new.folder; image = c.args.self.now.image; log = c.args.self.now.log; tags = c.args.self.now.tags; checks = c.args.self.now.checks }) refl _
    c.in_ok-before.ensures.acts in
    answered (λ f. f.at) (λ f. f.checks.failed) h c.args.self.now _ _ (λ s. s) Same _ _ refl one.ok (record { failed = tt; passed = one.failures.passed }) one

pub returns-clause-acts : goal.returns-clause-acts
returns-clause-acts g c =
    let h = g.R.HostLogs.folders _ _ _ in
    let one = looked (λ f. f.at) (λ f. f.checks.failed) h c.args.self.now
    (record { at = c.read_synced.new.folder; image = c.args.self.now.image; log = c.args.self.now.log; tags = c.args.self.now.tags; checks = c.args.self.now.checks }) refl _
    c.in_ok-before.ensures.acts in
    answered (λ f. f.at) (λ f. f.checks.failed) h c.args.self.now _ _ (λ s. s) Same _ _ refl one.ok (record { failed = tt; passed = one.failures.passed }) one

pub returns-then-not-set_tag-clause-tagged : goal.returns-then-not-set_tag-clause-tagged
returns-then-not-set_tag-clause-tagged g c s held =
    let now = c.in_ok-before.ensures.acts.ok s held in (
      s,
      now,
      λ room. absurd (false≢true (sym c.if-not-set_tag.true
          ∙ c.set_tag.ensures.told.1 (subst HasTagRoom (c.in_ok-before.ensures.sector s now) room))),
      subst (LeavesSector (g.R.HostLogs.folders _ _ _) c.read_synced.new.folder 357) (sym (c.in_ok-before.ensures.sector s now)) c.in_ok-before.ensures.left,
    )

pub returns-then-ne-clause-tagged : goal.returns-then-ne-clause-tagged
returns-then-ne-clause-tagged g c = on_ok _ _ c.change_tag.result
    (λ is s held.
    let u = is s (c.in_ok-before.ensures.acts.ok s held) in (
      u.0,
      u.1,
      λ room. subst IsTagged (sym u.2) (put_on c.set_tag.new.sector (c.set_tag.ensures.put c.if-not-set_tag.false)),
      u.3,
    ))
    c.change_tag.ensures.is

pub returns-clause-tagged : goal.returns-clause-tagged
returns-clause-tagged g c s held =
    let now = c.in_ok-before.ensures.acts.ok s held in (
      s,
      now,
      λ room. subst IsTagged (same c.set_tag.new.sector c.in_ok-before.before c.if-ne.ensures ∙ sym (c.in_ok-before.ensures.sector s now))
          (put_on c.set_tag.new.sector (c.set_tag.ensures.put c.if-not-set_tag.false)),
      subst (LeavesSector (g.R.HostLogs.folders _ _ _) c.read_synced.new.folder 357) (sym (c.in_ok-before.ensures.sector s now)) c.in_ok-before.ensures.left,
    )
