-- The bytes so far were written.
use Rattle.std.proofs.Common.{take}
use Rattle.std.specs.Prelude.{flat_map}
use Rattle.std.specs.Io.KnownBytes.{Appends}
use Rattle.disk_pictures.specs.Html.{escaped}
use Rattle.disk_pictures.proofs.pages.missing_block.print_all_escaped.Given as goal

abbrev pub invariant-loop-byte : goal.invariant-loop-byte
invariant-loop-byte g l =
    Appends (g.W.Write.contents l.fn.out) (g.W.Write.contents l.out) (flat_map escaped (take l.byte-index l.text))
