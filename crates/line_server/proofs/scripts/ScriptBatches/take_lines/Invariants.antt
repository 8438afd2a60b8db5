-- The lines so far.
use Rattle.std.proofs.Common.{◌≡◌, ◌≤◌, length}
use Rattle.std.specs.Prelude.{vec_capacity}
use Rattle.line_server.specs.Batches.{texts_of}
use Rattle.line_server.specs.Scripts.{text_left}
use Rattle.line_server.proofs.Together.{HasLines}
use Rattle.line_server.proofs.scripts.ScriptBatches.take_lines.Given as goal

abbrev pub invariant-loop : goal.invariant-loop
invariant-loop l = HasLines (text_left l.fn.self) (text_left l.self) (texts_of l.lines.items)
    × (length l.lines.items ≡ l.counter) × (512 ≤ vec_capacity l.lines)
