-- The bytes of the blocks so far were printed.
use Rattle.std.proofs.Common.{take}
use Rattle.std.specs.Io.KnownBytes.{Appends}
use Rattle.d64_image.specs.Memory.{disk_image}
use Rattle.disk_layout.specs.Records.{joined}
use Rattle.file_rescues.specs.Forms.{bytes_as}
use Rattle.file_rescues.proofs.chains.print_blocks.Given as goal

abbrev pub invariant-loop-place : goal.invariant-loop-place
invariant-loop-place g l =
    Appends (g.W.Write.contents l.fn.out) (g.W.Write.contents l.out)
    (bytes_as l.form (joined (disk_image l.disk) (take l.place-index l.places)))
