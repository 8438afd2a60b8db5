use Rattle.std.proofs.Common.{◌∙◌, ap}
use Rattle.d64_image.specs.Memory.{sectors_in, bytes_of}
use Rattle.d64_image.specs.Chunks.{sectors_in-bytes_of}
use Rattle.d64_image.proofs.mem_disk.MemDisk.bytes.Goals as goal

pub returns-clause-image : goal.returns-clause-image
returns-clause-image c =
    ap sectors_in (c.as_flattened.ensures.value ∙ ap bytes_of c.as_slice.ensures.value)
    ∙ sectors_in-bytes_of c.args.self.now.sectors.items c.args.self.now.whole
