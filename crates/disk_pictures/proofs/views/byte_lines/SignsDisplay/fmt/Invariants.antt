-- The text of the bytes so far was written.
use Rattle.std.proofs.Common.{take}
use Rattle.std.specs.Fmt.{HasWritten, IsPlainFormatter}
use Rattle.std.specs.Prelude.{flat_map}
use Rattle.disk_pictures.specs.Views.{byte_sign}
use Rattle.disk_pictures.proofs.views.byte_lines.SignsDisplay.fmt.Given as goal

abbrev pub invariant-loop-byte : goal.invariant-loop-byte
invariant-loop-byte g l =
    IsPlainFormatter l.initial.f
    → HasWritten g.W.Write.write_str_gives l.initial.f (flat_map byte_sign (take l.byte-index l.byte-items)) l.f
