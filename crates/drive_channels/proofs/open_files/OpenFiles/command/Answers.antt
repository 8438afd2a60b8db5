use Rattle.std.proofs.Common.{arith}
use Rattle.drive_channels.proofs.Orders.{begins-p, meets-p, no-truth}
use Rattle.drive_channels.proofs.open_files.OpenFiles.command.Goals as goal
use Rattle.drive_channels.specs.Inside.{shown}

pub returns-then-text-eq80-clause-row : goal.returns-then-text-eq80-clause-row
returns-then-text-eq80-clause-row c = λ img s known. meets-p (shown img c.args.self.now s) c.args.text.now _
    c.requires.other (λ i. no-truth _ c.if-is_initialize.false (c.is_initialize.ensures.1 i))
    (begins-p c.args.text.now (omega (arith, c.if-text-eq80.true))) (c.position.ensures.row img s known)
