use Rattle.std.proofs.Common.{refl, sym, ap, ◌∙◌, ◌≤◌, arith, le_refl}
use Rattle.mem_host.proofs.Filmed.{answered, gave_in, refused}
use Rattle.mem_host.proofs.mem_host.MemHostHost.open.Goals as goal

pub returns-in_err-pass : goal.returns-in_err-pass
returns-in_err-pass c k = refused c.args.self.now c.pass.new.self _ _ _ _ c.from_residual.ensures c.in_err-pass.ensures

pub returns-in_default : goal.returns-in_default
returns-in_default c k = gave_in c.args.self.now c.pass.new.self c.fail.new.self _ _ _ c.in_ok-pass.ensures c.fail.ensures.moves c.fail.ensures.failed c.fail.ensures.taken

pub returns : goal.returns
returns c k = answered c.args.self.now c.pass.new.self _ _ _ (refl, c.in-Some.ensures) c.in_ok-pass.ensures
