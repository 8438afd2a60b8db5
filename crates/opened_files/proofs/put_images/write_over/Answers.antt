-- The file that was opened is the one that was written over.
use Rattle.opened_files.proofs.Made.{written-over}
use Rattle.opened_files.proofs.put_images.write_over.Goals as goal

pub returns-in-Ok : goal.returns-in-Ok
returns-in-Ok g c =
    written-over g.F.EndedFile.remains g.R.HostFiles.traces c.args.rt.now c.args.path.now c.args.image.now
    c.in_ok-file.file c.take.new.file c.replace_image.new.file c.replace_image.result c.in-Ok.field-0
    c.in_ok-file.ensures c.take.ensures c.replace_image.ensures.ok
    c.replace_image.ensures.held c.in-Ok.is
