use Rattle.std.proofs.Common.{arith}
use Rattle.image_log.proofs.Filled.{part_put}
use Rattle.image_log.proofs.filling.set_bytes.Goals as goal

pub returns-clause-bytes : goal.returns-clause-bytes
returns-clause-bytes c = part_put c.args.block.now c.copy_from_slice.new.self c.args.bytes.now _ c.args.at
    (omega (arith, c.requires, c.told-block)) c.copy_from_slice.ensures.after c.told-bytes
