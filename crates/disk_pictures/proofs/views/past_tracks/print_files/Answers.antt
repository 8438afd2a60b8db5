-- One file's lines more.
use Rattle.std.proofs.Common.{arith}
use Rattle.disk_pictures.proofs.lemmas.views.Trimmed.{all-files, files-more}
use Rattle.disk_pictures.proofs.views.past_tracks.print_files.Goals as goal

pub loop-file-preserved : goal.loop-file-preserved
loop-file-preserved g c =
    files-more _ _ _ c.args.image.now c.args.files.now c.loop-file.file-index c.file-item.result c.loop-file-test.true
    c.file-item.is c.loop-file.invariant c.in_ok-print_past_file.ensures.ok

pub returns-clause-ok : goal.returns-clause-ok
returns-clause-ok g c =
    all-files _ _ c.args.image.now c.args.files.now c.loop-file.file-index
    (omega (arith, c.loop-file-test.false, c.loop-file.auto.file-index-end)) c.loop-file.invariant
