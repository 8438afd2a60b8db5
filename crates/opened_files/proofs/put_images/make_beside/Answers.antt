-- The steps, one after another.
use Rattle.opened_files.proofs.Made.{made-at}
use Rattle.opened_files.proofs.put_images.make_beside.Goals as goal

pub returns : goal.returns
returns g c =
    let aside = c.in_ok-aside.ensures in
    made-at g.F.EndedFile.remains g.R.HostFiles.traces c.args.rt.now _ c.args.path.now _ _ c.args.image.now
    c.in_ok-file.file c.fill-filled.new.file c.fill-filled.result aside.0 aside.1
    c.in_ok-file.ensures
    c.fill-filled.ensures.held c.fill-filled.ensures.lasting c.fill-filled.ensures.moved
