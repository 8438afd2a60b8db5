use Rattle.std.proofs.Common.{refl}
use Rattle.mem_host.proofs.Filmed.{answered, refused}
use Rattle.mem_host.proofs.mem_host.MemHostHost.read_at.Goals as goal

pub returns-in_err-pass-clause-steps : goal.returns-in_err-pass-clause-steps
returns-in_err-pass-clause-steps c k = refused c.args.self.now c.pass.new.self _ _ _ _ c.from_residual.ensures c.in_err-pass.ensures

pub returns-clause-steps : goal.returns-clause-steps
returns-clause-steps c k = answered c.args.self.now c.pass.new.self _ _ _ (refl, λ _. c.read_from.ensures.copied) c.in_ok-pass.ensures
