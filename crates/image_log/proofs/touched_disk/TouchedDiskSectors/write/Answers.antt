use Rattle.std.proofs.Common.{arith, refl}
use Rattle.image_log.proofs.Touches.{write_touches}
use Rattle.image_log.proofs.touched_disk.TouchedDiskSectors.write.Goals as goal

pub returns-clause-device : goal.returns-clause-device
returns-clause-device g c = write_touches g.D.Sectors.history c.args.self.now _ c.args.place c.args.from.now _ c.write.result
    c.index.result c.index.ensures.value (omega arith) refl c.write.ensures
