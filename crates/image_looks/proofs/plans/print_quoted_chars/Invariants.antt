-- The bytes so far were written.
use Rattle.std.proofs.Common.{take}
use Rattle.std.specs.Prelude.{flat_map}
use Rattle.std.specs.Io.KnownBytes.{Appends}
use Rattle.image_looks.specs.Plans.{quoted_char}
use Rattle.image_looks.proofs.plans.print_quoted_chars.Given as goal

abbrev pub invariant-loop-byte : goal.invariant-loop-byte
invariant-loop-byte g l =
    Appends (g.W.Write.contents l.fn.out) (g.W.Write.contents l.out) (flat_map quoted_char (take l.byte-index l.name))
