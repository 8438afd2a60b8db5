use Rattle.std.proofs.Common.{refl, sym, ap, ◌∙◌, ◌≤◌, arith, le_refl}
use Rattle.mem_host.proofs.Filmed.{attempted, if_ok_map, refused}
use Rattle.mem_host.proofs.mem_host.MemHostHost.make_folder.Goals as goal

pub returns-in_err-pass : goal.returns-in_err-pass
returns-in_err-pass c k = refused c.args.self.now c.pass.new.self _ _ _ _ c.from_residual.ensures c.in_err-pass.ensures

pub returns : goal.returns
returns c k = attempted c.args.self.now c.pass.new.self c.attempt.new.self _ _ _ _ c.in_ok-pass.ensures (if_ok_map c.making_of-what.result _ _ (λ v d. (d.0, d.2)) c.making_of-what.ensures) c.attempt.ensures
