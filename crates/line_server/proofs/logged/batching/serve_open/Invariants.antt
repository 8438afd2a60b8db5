-- The batches so far: with each there is a line more.
use Rattle.std.proofs.Common.{[], ◌≤◌, length}
use Rattle.d64_image.specs.declared.mem_disk.MemDisk.{MemDisk}
use Rattle.line_text.specs.scripts.Lines.{lines}
use Rattle.line_server.specs.logged.Batches.{HasOpened, IsUnderWay}
use Rattle.line_server.proofs.logged.batching.serve_open.Given as goal

abbrev pub invariant-loop : goal.invariant-loop
invariant-loop g l = (disk : MemDisk) → HasOpened disk l.fn.session l.fn.room.kept.items
    → (x : IsUnderWay g.L.ImageLog.history g.R.BatchSource.input g.T.BatchReplies.output disk l.fn.log l.fn.input l.fn.out []
    l.session l.room.kept.items l.log l.input l.out) × (l.counter ≤ length (lines x.handled))
