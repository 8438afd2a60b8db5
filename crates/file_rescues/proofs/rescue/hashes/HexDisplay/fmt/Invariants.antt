-- The digits of the bytes so far were written.
use Rattle.std.proofs.Common.{take}
use Rattle.std.specs.Fmt.{HasWritten, IsPlainFormatter}
use Rattle.std.specs.Prelude.{flat_map}
use Rattle.line_text.specs.basic.Characters.{hex}
use Rattle.file_rescues.proofs.rescue.hashes.HexDisplay.fmt.Given as goal

abbrev pub invariant-loop-byte : goal.invariant-loop-byte
invariant-loop-byte g l =
    IsPlainFormatter l.initial.f
    → HasWritten g.W.Write.write_str_gives l.initial.f (flat_map hex (take l.byte-index l.byte-items)) l.f
