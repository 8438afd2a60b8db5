-- The bytes so far were shown.
use Rattle.std.proofs.Common.{take}
use Rattle.std.specs.Prelude.{flat_map, if◌then◌else◌}
use Rattle.std.specs.Fmt.{HasWritten, IsPlainFormatter}
use Rattle.disk_pictures.specs.Html.{html_byte, plain_byte}
use Rattle.disk_pictures.proofs.html.HtmlDisplay.fmt.Given as goal

abbrev pub invariant-loop-byte : goal.invariant-loop-byte
invariant-loop-byte g l =
    IsPlainFormatter l.initial.f
    → HasWritten g.W.Write.write_str_gives l.initial.f
    (flat_map (λ b. if l.escaped then html_byte b else plain_byte b) (take l.byte-index l.byte-items)) l.f
