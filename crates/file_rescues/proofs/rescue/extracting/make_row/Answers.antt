-- Directory art has no file, and another entry its own.
use Rattle.std.proofs.Common.{sym, ◌∙◌}
use Rattle.std.proofs.lemmas.Result.{err_from_is_err_and}
use Rattle.d64_image.specs.Memory.{disk_image}
use Rattle.file_rescues.proofs.lemmas.rescue.Made.{art-made, own-made}
use Rattle.file_rescues.specs.rescue.Folders.{AddsFiles, AddsPart}
use Rattle.file_rescues.proofs.rescue.extracting.make_row.Goals as goal

pub returns-then-is_art-clause-ok : goal.returns-then-is_art-clause-ok
returns-then-is_art-clause-ok g c =
    art-made _ c.args.image.now (disk_image c.args.disk.now) c.args.number c.args.file.now (sym c.is_art.ensures ∙ c.if-is_art.true)

pub returns-in_err-bytes-clause-err : goal.returns-in_err-bytes-clause-err
returns-in_err-bytes-clause-err g c =
    let p = err_from_is_err_and c.from_residual.result c.from_residual.ensures.1 in
    rw (p.1, p.2) (
      c.in_err-bytes.ensures.err.0,
      own-made (AddsPart _ _) c.args.image.now (disk_image c.args.disk.now) c.args.number c.args.file.now
          (sym c.is_art.ensures ∙ c.if-is_art.false) c.in_err-bytes.ensures.err.1,
    )

pub returns-clause-ok : goal.returns-clause-ok
returns-clause-ok g c =
    own-made (AddsFiles _ _) c.args.image.now (disk_image c.args.disk.now) c.args.number c.args.file.now
    (sym c.is_art.ensures ∙ c.if-is_art.false) c.in_ok-bytes.ensures.ok.1
