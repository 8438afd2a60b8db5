use Rattle.std.proofs.Common.{refl, sym}
use Rattle.image_log.proofs.Remembered.{wrote_err, wrote_ok}
use Rattle.image_log.proofs.mem_log.MemLogLogFile.write_at.Goals as goal

pub returns-in_err-overwrite-clause-written : goal.returns-in_err-overwrite-clause-written
returns-in_err-overwrite-clause-written c = wrote_err c.args.self.now _ refl c.args.at _ c.args.bytes.now c.in-Ok.ensures.items c.in_ok-note.ensures.ok
    _ c.from_residual-in_err-overwrite.ensures.0 refl

pub returns-clause-written : goal.returns-clause-written
returns-clause-written c = wrote_ok c.args.self.now _ refl c.args.at _ c.args.bytes.now c.in-Ok.ensures.items c.in_ok-note.ensures.ok tt
    c.in_ok-overwrite.ensures.ok (sym c.if-was_failed.false)
