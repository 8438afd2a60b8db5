-- The text of the bytes so far was written.
use Rattle.std.proofs.Common.{◌-◌, ◌≤◌, length, take}
use Rattle.std.specs.Io.KnownBytes.{Appends}
use Rattle.line_text.specs.bytes.Texts.{text_of}
use Rattle.line_text.proofs.bytes.writing.write_text.Given as goal

abbrev pub invariant-loop-start : goal.invariant-loop-start
invariant-loop-start g l =
    (l.start ≤ length l.bytes) × Appends (g.W.Write.contents l.fn.out) (g.W.Write.contents l.out)
    (text_of (take l.start l.bytes))

abbrev pub decreases-loop-start : goal.decreases-loop-start
decreases-loop-start g l = length l.bytes - l.start
