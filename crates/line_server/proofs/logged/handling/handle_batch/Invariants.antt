-- The lines so far.
use Rattle.std.proofs.Common.{◌≡◌, ◌≤◌, length, take}
use Rattle.std.specs.Prelude.{vec_capacity}
use Rattle.line_server.specs.Batches.{texts_of}
use Rattle.line_server.specs.logged.Handling.{AreHandled}
use Rattle.line_server.proofs.logged.handling.handle_batch.Given as goal

abbrev pub invariant-loop-line : goal.invariant-loop-line
invariant-loop-line l = AreHandled l.fn.session l.session (texts_of (take l.line-index l.lines)) l.replies.items
    × (length l.replies.items ≡ l.line-index) × (512 ≤ vec_capacity l.replies)
