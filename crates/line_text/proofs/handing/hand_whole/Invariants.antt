-- So many bytes were written.
use Rattle.std.proofs.Common.{◌≤◌, length, take}
use Rattle.std.specs.Io.KnownBytes.{Appends}
use Rattle.line_text.proofs.handing.hand_whole.Given as goal

abbrev pub invariant-loop : goal.invariant-loop
invariant-loop g l =
    record {
      within : l.written ≤ length l.bytes;
      wrote : Appends (g.W.Write.contents l.fn.out) (g.W.Write.contents l.out) (take l.written l.bytes);
    }
