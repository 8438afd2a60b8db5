-- The bytes so far were written as they are printed.
use Rattle.std.proofs.Common.{map, take}
use Rattle.std.specs.Fmt.{HasWritten, IsPlainFormatter}
use Rattle.disk_reports.specs.Texts.{shown}
use Rattle.disk_reports.proofs.texts.ShownDisplay.fmt.Given as goal

abbrev pub invariant-loop-byte : goal.invariant-loop-byte
invariant-loop-byte g l =
    IsPlainFormatter l.initial.f
    → HasWritten g.W.Write.write_str_gives l.initial.f (map shown (take l.byte-index l.byte-items)) l.f
