-- Of the lines of the records so far a beginning was printed, and the room has the others.
use Rattle.std.proofs.Common.{◌≤◌, take}
use Rattle.command_faults.specs.Outputs.{HandsOn}
use Rattle.file_rescues.specs.Records.{lines_to, records_of}
use Rattle.file_rescues.proofs.piece_printing.print_gathered.Given as goal

abbrev pub invariant-loop-before : goal.invariant-loop-before
invariant-loop-before g l = record {
  handed : HandsOn (g.W.Write.contents l.fn.out) (g.W.Write.contents l.out)
      (lines_to (records_of l.size l.bytes) l.before) (take l.end l.room);
  within : l.end ≤ 4096;
}
