use Rattle.std.proofs.Common.{refl, sym, ap, ◌∙◌, ◌≤◌, arith, le_refl}
use Rattle.one_host.specs.Calls.{entry}
use Rattle.mem_host.specs.Film.{film}
use Rattle.mem_host.proofs.Filmed.{answered, gave_in, refused}
use Rattle.mem_host.proofs.mem_host.MemHostHost.resolve.Goals as goal

pub returns-in_err-pass-clause-steps : goal.returns-in_err-pass-clause-steps
returns-in_err-pass-clause-steps c k = refused c.args.self.now c.pass.new.self _ _ _ _ c.from_residual.ensures c.in_err-pass.ensures

pub returns-in_default-clause-steps : goal.returns-in_default-clause-steps
returns-in_default-clause-steps c k = gave_in c.args.self.now c.pass.new.self c.fail.new.self _ _ _ c.in_ok-pass.ensures c.fail.ensures.moves c.fail.ensures.failed c.fail.ensures.taken

pub returns-clause-steps : goal.returns-clause-steps
returns-clause-steps c k = answered c.args.self.now c.pass.new.self _ _ _ (refl, ap (entry (film.world c.pass.new.self)) c.in-Some.ensures) c.in_ok-pass.ensures
