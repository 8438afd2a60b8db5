-- The moments of the write and the sync are those of a torn commit.
use Rattle.d64_image.specs.Images.{Image}
use Rattle.image_log.specs.Blocks.{brought}
use Rattle.image_log.proofs.Appended.{appended, has_room, torn_moments}
use Rattle.image_log.proofs.committing.append_commit.Goals as goal

pub returns-in_err-append-clause-moments : goal.returns-in_err-append-clause-moments
returns-in_err-append-clause-moments g c f rests log =
    let made = c.fill-n.ensures in
    let flat = c.as_flattened.ensures in
    torn_moments c.fill-n.new.room c.fill-n.result c.args.end made.commit made.few made.room made.wide c.requires.fits
    c.as_flattened.result.now flat.value flat.len g.F.LogFile.history c.args.file.now c.append.new.file
    (λ (i : Image). brought c.args.touched.now c.args.now.now 683 i) made.brought f log c.append.result
    (c.append.ensures.brings f rests
    (has_room c.fill-n.new.room c.fill-n.result c.args.end made.commit made.few made.room made.wide c.requires.fits
    c.as_flattened.result.now flat.value flat.len f log))

pub returns-clause-moments : goal.returns-clause-moments
returns-clause-moments g c f rests log =
    let made = c.fill-n.ensures in
    let flat = c.as_flattened.ensures in
    torn_moments c.fill-n.new.room c.fill-n.result c.args.end made.commit made.few made.room made.wide c.requires.fits
    c.as_flattened.result.now flat.value flat.len g.F.LogFile.history c.args.file.now c.append.new.file
    (λ (i : Image). brought c.args.touched.now c.args.now.now 683 i) made.brought f log c.append.result
    (c.append.ensures.brings f rests
    (has_room c.fill-n.new.room c.fill-n.result c.args.end made.commit made.few made.room made.wide c.requires.fits
    c.as_flattened.result.now flat.value flat.len f log))

pub returns-clause-ok : goal.returns-clause-ok
returns-clause-ok g c f rests log =
    let made = c.fill-n.ensures in
    let flat = c.as_flattened.ensures in
    appended c.fill-n.new.room c.fill-n.result c.args.end made.commit made.few made.room made.wide c.requires.fits
    c.as_flattened.result.now flat.value flat.len g.F.LogFile.history c.args.file.now c.append.new.file
    (λ (i : Image). brought c.args.touched.now c.args.now.now 683 i) made.brought f log
    (c.in_ok-append.ensures.brings f rests
    (has_room c.fill-n.new.room c.fill-n.result c.args.end made.commit made.few made.room made.wide c.requires.fits
    c.as_flattened.result.now flat.value flat.len f log)).ok
