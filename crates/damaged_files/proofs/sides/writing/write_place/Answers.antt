-- One write.
use Rattle.d64_image.specs.Memory.{disk_image}
use Rattle.damaged_files.proofs.lemmas.sides.Mixes.{takes-write}
use Rattle.damaged_files.proofs.sides.writing.write_place.Goals as goal

pub returns : goal.returns
returns g c = takes-write g.D.Sectors.history (disk_image c.args.before.now) (disk_image c.args.after.now)
    c.args.place c.sector-wanted.result.now c.args.disk.now c.write_sector.new.disk c.write_sector.result
    c.sector-wanted.ensures c.write_sector.ensures
