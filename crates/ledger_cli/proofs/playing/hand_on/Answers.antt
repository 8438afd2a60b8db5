-- A flush keeps what was written.
use Rattle.ledger_cli.proofs.Kept.{still_written}
use Rattle.ledger_cli.proofs.playing.hand_on.Goals as goal

pub returns : goal.returns
returns g c = still_written g.W.Write.contents c.args.out.now c.flush.new.self c.flush.ensures.bytes
