use Rattle.std.proofs.Common.{refl, sym, ap, ◌∙◌, ◌≤◌, arith, le_refl}
use Rattle.mem_host.proofs.Filmed.{gave_up_so, made_it, refused}
use Rattle.mem_host.proofs.mem_host.MemHostHost.make.Goals as goal

pub returns-in_err-pass : goal.returns-in_err-pass
returns-in_err-pass c k = refused c.args.self.now c.pass.new.self _ _ _ _ c.from_residual.ensures c.in_err-pass.ensures

pub returns-in_err-attempt : goal.returns-in_err-attempt
returns-in_err-attempt c k = gave_up_so c.args.self.now c.pass.new.self c.attempt.new.self _ _ _ _ _ c.from_residual-in_err-attempt.ensures c.in_ok-pass.ensures c.in_err-attempt.ensures

pub returns : goal.returns
returns c k = made_it c.args.self.now c.pass.new.self c.attempt.new.self _ _ _ _ c.in_ok-pass.ensures c.making_of-what.ensures c.in_ok-attempt.ensures
