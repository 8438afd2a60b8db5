-- The sectors that changed are committed.
use Rattle.std.proofs.Common.{◌∙◌, ap}
use Rattle.d64_image.specs.Memory.{disk_image}
use Rattle.line_server.proofs.lemmas.logged.Chunks.{sectors_are}
use Rattle.line_server.proofs.lemmas.logged.Kept.{kept_by}
use Rattle.line_server.proofs.logged.keeping.commit_changes.Goals as goal

pub returns-clause-kept : goal.returns-clause-kept
returns-clause-kept g c =
    let now = c.as_chunks.ensures.front ∙ sectors_are c.bytes.result.now c.bytes.ensures.size ∙ c.bytes.ensures.image
    ∙ ap disk_image c.disk.ensures in
    kept_by g.L.ImageLog.history c.args.disk.now c.args.kept.now c.take_changes-touched.new.kept _ c.touched.result.now
    c.take_changes-touched.result c.args.log.now c.commit.new.self now c.touched.ensures _ c.commit.result c.take_changes-touched.ensures.covers
    c.take_changes-touched.ensures.brought c.take_changes-touched.ensures.same c.commit.ensures
