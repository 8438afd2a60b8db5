-- The sector that is written is one of the blocks.
use Rattle.std.proofs.Common.{subst, sym}
use Rattle.d64_image.specs.Memory.{disk_image}
use Rattle.disk_changes.proofs.GeosPut.{beside-put}
use Rattle.file_changes.specs.PutWrites.{SameBeside}
use Rattle.disk_changes.proofs.geos_putting.put_block.Goals as goal

pub returns : goal.returns
returns c = subst (SameBeside (disk_image c.args.disk.now) c.args.blocks.now) (sym c.put_sector.ensures)
    (beside-put (disk_image c.args.disk.now) c.args.blocks.now c.index-blocks-number.result c.args.bytes.now
    (c.args.number, c.requires, sym c.index-blocks-number.is))
