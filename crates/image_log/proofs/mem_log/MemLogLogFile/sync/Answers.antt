use Rattle.std.proofs.Common.{refl, sym}
use Rattle.image_log.proofs.Remembered.{synced_ok}
use Rattle.image_log.proofs.mem_log.MemLogLogFile.sync.Goals as goal

pub returns : goal.returns
returns c = synced_ok c.args.self.now _ refl tt c.if-self.false refl (sym c.if-self.false) c.in_ok-note.ensures.ok
