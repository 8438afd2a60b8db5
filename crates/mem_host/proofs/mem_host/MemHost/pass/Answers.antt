use Rattle.mem_host.proofs.Filmed.{passed, stopped, then_passed}
use Rattle.mem_host.proofs.mem_host.MemHost.pass.Goals as goal

pub returns-then-self-eq0 : goal.returns-then-self-eq0
returns-then-self-eq0 c = then_passed c.args.self.now c.meddle.new.self c.fail.new.self _ c.in_ok-meddle.ensures
    (stopped c.meddle.new.self c.fail.new.self _ c.fail.ensures.moves c.fail.ensures.failed)
