-- The bytes so far.
use Rattle.std.proofs.Common.{◌≡◌, ◌≤◌, ℕ, List, length, take}
use Rattle.std.specs.Prelude.{vec_capacity}
use Rattle.line_server.specs.Batches.{texts_of}
use Rattle.line_server.specs.Read.{LacksLf}
use Rattle.served_lines.specs.Taken.{TakesLines}
use Rattle.served_lines.proofs.reading.take_lines.Given as goal

abbrev pub invariant-loop-i : goal.invariant-loop-i
invariant-loop-i l = record {
  few : length l.lines.items ≤ 512;
  room : 512 ≤ vec_capacity l.lines;
  taken : (raw : List ℕ) → LacksLf raw → l.fn.line.items ≡ take 40 raw
      → TakesLines raw (take l.i l.bytes) l.line.items (texts_of l.lines.items);
}
