use Rattle.std.proofs.Common.{refl}
use Rattle.mem_host.proofs.Filmed.{answered, refused}
use Rattle.mem_host.proofs.mem_host.MemHostHost.leads.Goals as goal

pub returns-in_err-pass : goal.returns-in_err-pass
returns-in_err-pass c k = refused c.args.self.now c.pass.new.self _ _ _ _ c.from_residual.ensures c.in_err-pass.ensures

pub returns : goal.returns
returns c k = answered c.args.self.now c.pass.new.self _ _ _ (refl, c.leads_to.ensures) c.in_ok-pass.ensures
