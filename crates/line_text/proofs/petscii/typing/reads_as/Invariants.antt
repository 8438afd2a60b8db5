-- The bytes so far have the text before the rest.
use Rattle.std.proofs.Common.{◌≡◌, ◌++◌, take}
use Rattle.line_text.specs.petscii.Quoted.{one_line}
use Rattle.line_text.proofs.petscii.typing.reads_as.Given as goal

abbrev pub invariant-loop-byte : goal.invariant-loop-byte
invariant-loop-byte l = l.text ≡ one_line l.set (take l.byte-index l.bytes) ++ l.rest
