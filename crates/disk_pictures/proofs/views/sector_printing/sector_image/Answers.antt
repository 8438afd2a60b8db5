-- What was read and drawn is of the image.
use Rattle.std.proofs.lemmas.Result.{on_ok_weaker}
use Rattle.d64_image.specs.Memory.{disk_image}
use Rattle.disk_pictures.proofs.lemmas.views.Viewed.{is-unowned}
use Rattle.disk_pictures.proofs.views.sector_printing.sector_image.Goals as goal

pub returns-clause-ok : goal.returns-clause-ok
returns-clause-ok g c =
    let loaded = c.in_ok-disk.ensures.ok in
    let holds = rw c.in-Err.is at c.in_ok-drawing.ensures.ok in
    on_ok_weaker c.print_unowned.result (is-unowned g.W.Write.contents c.args.image.now c.args.place c.args.out.now
    c.print_unowned.new.out (disk_image c.in_ok-disk.disk) c.sector.result.now c.in-Err.fault loaded.0 loaded.1
    c.sector.ensures
    holds)
    c.print_unowned.ensures.ok
