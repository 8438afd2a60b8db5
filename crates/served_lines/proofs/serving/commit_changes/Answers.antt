-- The sectors that changed are committed.
use Rattle.std.proofs.Common.{◌∙◌, ap, refl}
use Rattle.d64_image.specs.Memory.{disk_image}
use Rattle.image_log.specs.Touched.{touched_of}
use Rattle.line_server.specs.logged.Memory.{image_of}
use Rattle.line_server.proofs.lemmas.logged.Chunks.{sectors_are}
use Rattle.served_lines.proofs.Committed.{as_marked, commit_moments, commit_since, full_moments}
use Rattle.served_lines.proofs.serving.commit_changes.Goals as goal

pub returns-then-is_full-clause-any_moment : goal.returns-then-is_full-clause-any_moment
returns-then-is_full-clause-any_moment g c known n start since =
    full_moments c.args.session.now.disk c.args.kept.now (image_of c.args.session.now.disk) (touched_of c.args.session.now.disk)
    (touched_of c.args.session.now.disk) refl refl (λ cover. cover) g.H.Host.history c.args.host.now c.args.host.now c.args.log n start since

pub returns-in_err-commit-clause-any_moment : goal.returns-in_err-commit-clause-any_moment
returns-in_err-commit-clause-any_moment g c known n start since =
    let now = c.as_chunks.ensures.front ∙ sectors_are c.bytes.result.now c.bytes.ensures.size ∙ c.bytes.ensures.image
    ∙ ap disk_image c.disk.ensures ∙ ap image_of c.disk-disk.ensures in
    commit_moments c.args.session.now.disk c.args.kept.now _ c.touched.result.now c.take_changes-touched.result now
    (c.touched.ensures ∙ ap touched_of c.disk-disk.ensures) c.take_changes-touched.ensures.covers g.H.Host.history c.args.host.now c.commit.new.host
    c.args.log n start since (c.commit.ensures.any_moment known n start c.args.kept.now)

pub returns-clause-any_moment : goal.returns-clause-any_moment
returns-clause-any_moment g c known n start since =
    let now = c.as_chunks.ensures.front ∙ sectors_are c.bytes.result.now c.bytes.ensures.size ∙ c.bytes.ensures.image
    ∙ ap disk_image c.disk.ensures ∙ ap image_of c.disk-disk.ensures in
    commit_moments c.args.session.now.disk c.args.kept.now _ c.touched.result.now c.take_changes-touched.result now
    (c.touched.ensures ∙ ap touched_of c.disk-disk.ensures) c.take_changes-touched.ensures.covers g.H.Host.history c.args.host.now c.commit.new.host
    c.args.log n start since (c.commit.ensures.any_moment known n start c.args.kept.now)

pub returns-clause-ok : goal.returns-clause-ok
returns-clause-ok g c known n start since =
    let now = c.as_chunks.ensures.front ∙ sectors_are c.bytes.result.now c.bytes.ensures.size ∙ c.bytes.ensures.image
    ∙ ap disk_image c.disk.ensures ∙ ap image_of c.disk-disk.ensures in
    commit_since c.args.session.now.disk c.args.kept.now _ c.touched.result.now c.take_changes-touched.result now
    (c.touched.ensures ∙ ap touched_of c.disk-disk.ensures) c.take_changes-touched.ensures.covers g.H.Host.history c.args.host.now c.commit.new.host
    c.args.log n start since c.in_ok-commit.field-0 (c.in_ok-commit.ensures.ok known n start c.args.kept.now)

pub returns-clause-kept : goal.returns-clause-kept
returns-clause-kept g c covers =
    let now = c.as_chunks.ensures.front ∙ sectors_are c.bytes.result.now c.bytes.ensures.size ∙ c.bytes.ensures.image
    ∙ ap disk_image c.disk.ensures ∙ ap image_of c.disk-disk.ensures in
    c.take_changes-touched.ensures.brought (as_marked c.args.session.now.disk c.args.kept.now _ c.touched.result.now c.take_changes-touched.result now
    (c.touched.ensures ∙ ap touched_of c.disk-disk.ensures) c.take_changes-touched.ensures.covers covers) ∙ now
