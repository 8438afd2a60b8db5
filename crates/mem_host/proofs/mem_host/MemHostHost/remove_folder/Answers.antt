use Rattle.std.proofs.Common.{refl}
use Rattle.mem_host.proofs.Filmed.{attempted, refused}
use Rattle.mem_host.proofs.mem_host.MemHostHost.remove_folder.Goals as goal

pub returns-in_err-pass : goal.returns-in_err-pass
returns-in_err-pass c k = refused c.args.self.now c.pass.new.self _ _ _ _ c.from_residual.ensures c.in_err-pass.ensures

pub returns : goal.returns
returns c k = attempted c.args.self.now c.pass.new.self c.attempt.new.self _ _ _ _ c.in_ok-pass.ensures c.removal_of-what.ensures c.attempt.ensures
