-- The lines so far are of records that the file has or can have, which are told of, and each took a byte of the text.
use Rattle.std.proofs.Common.{◌≤◌, ◌+◌, length}
use Rattle.rel_records.specs.File.{length_of, records_in}
use Rattle.line_text.specs.scripts.Lines.{lines}
use Rattle.disk_changes.proofs.lemmas.lines.Judged.{JudgedTo}
use Rattle.disk_changes.proofs.lines.judging.check_lines.Given as goal

abbrev pub invariant-loop-line : goal.invariant-loop-line
invariant-loop-line l = record {
  room : l.count + length l.rest ≤ length l.text;
  judged : JudgedTo (length_of l.file) (records_in l.file) (lines l.text) (lines l.rest) l.count l.most
      l.last.places.items;
}

abbrev pub decreases-loop-line : goal.decreases-loop-line
decreases-loop-line l = length l.rest
