-- The lines so far.
use Rattle.std.proofs.Common.{◌≡◌, ◌≤◌, length}
use Rattle.std.specs.Prelude.{vec_capacity}
use Rattle.line_server.specs.Batches.{texts_of}
use Rattle.line_server.proofs.Together.{HasLines}
use Rattle.line_server.proofs.batches.take_batch.Given as goal

abbrev pub invariant-loop : goal.invariant-loop
invariant-loop g l = HasLines (g.R.Read.remaining l.fn.input) (g.R.Read.remaining l.input) (texts_of l.lines.items)
    × (length l.lines.items ≡ l.counter) × (512 ≤ vec_capacity l.lines)
