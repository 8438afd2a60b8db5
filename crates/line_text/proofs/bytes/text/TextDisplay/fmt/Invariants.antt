-- The text of the bytes so far was written.
use Rattle.std.proofs.Common.{take}
use Rattle.std.specs.Fmt.{HasWritten, IsPlainFormatter}
use Rattle.line_text.specs.bytes.Texts.{text_of}
use Rattle.line_text.proofs.bytes.text.TextDisplay.fmt.Given as goal

abbrev pub invariant-loop-byte : goal.invariant-loop-byte
invariant-loop-byte g l =
    IsPlainFormatter l.initial.f
    → HasWritten g.W.Write.write_str_gives l.initial.f (text_of (take l.byte-index l.byte-items)) l.f
