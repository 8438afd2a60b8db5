-- The lines so far were printed.
use Rattle.std.proofs.Common.{◌*◌, ◌+◌}
use Rattle.std.specs.Prelude.{slice_range}
use Rattle.std.specs.Io.KnownBytes.{Appends}
use Rattle.disk_pictures.specs.Texts.{each_below}
use Rattle.disk_pictures.specs.Views.{bytes_line}
use Rattle.disk_pictures.proofs.views.byte_lines.print_bytes.Given as goal

abbrev pub invariant-loop-number : goal.invariant-loop-number
invariant-loop-number g l = Appends (g.W.Write.contents l.fn.out) (g.W.Write.contents l.out)
    (each_below l.number (λ k. bytes_line k (slice_range l.bytes (16 * k) (16 * k + 16))))
