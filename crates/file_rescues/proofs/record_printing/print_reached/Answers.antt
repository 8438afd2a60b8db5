-- A file of at most 720 blocks is short.
use Rattle.std.proofs.Common.{ap, arith, length, ◌∙◌}
use Rattle.d64_image.specs.Memory.{disk_image}
use Rattle.file_rescues.proofs.Pieced.{short-file}
use Rattle.file_rescues.proofs.record_printing.print_reached.Goals as goal

pub print_pieces-requires-clause-short : goal.print_pieces-requires-clause-short
print_pieces-requires-clause-short g c =
    let same = ap length (c.as_slice.ensures.value ∙ c.in_ok-bytes.ensures.ok) in
    let short = short-file (disk_image c.args.disk.now) c.args.blocks.now c.args.file.last c.args.disk.now.whole
    c.requires.few in
    omega (arith, same, short)
