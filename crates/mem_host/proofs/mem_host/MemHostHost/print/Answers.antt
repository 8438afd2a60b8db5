use Rattle.std.proofs.Common.{refl, sym, ap, ◌∙◌, ◌≤◌, arith, le_refl, length, ◌≡◌}
use Rattle.std.proofs.lemmas.List.{take_all}
use Rattle.one_host.specs.Calls.{printed}
use Rattle.mem_host.specs.Film.{film}
use Rattle.mem_host.specs.Moves.{acted}
use Rattle.mem_host.proofs.Filmed.{gave_up_so, if_ok_map, made_it, refused}
use Rattle.mem_host.proofs.mem_host.MemHostHost.print.Goals as goal

pub returns-in_err-pass-clause-steps : goal.returns-in_err-pass-clause-steps
returns-in_err-pass-clause-steps c k = refused c.args.self.now c.pass.new.self _ _ _ _ c.from_residual.ensures c.in_err-pass.ensures

pub returns-in_err-attempt-clause-steps : goal.returns-in_err-attempt-clause-steps
returns-in_err-attempt-clause-steps c k = gave_up_so c.args.self.now c.pass.new.self c.attempt.new.self _ _ _ _ _ c.from_residual-in_err-attempt.ensures c.in_ok-pass.ensures c.in_err-attempt.ensures

pub returns-clause-steps : goal.returns-clause-steps
returns-clause-steps c k = made_it c.args.self.now c.pass.new.self c.attempt.new.self _ _ _ _ c.in_ok-pass.ensures (if_ok_map c.printing_of-what.result _ _
    (λ v (d : acted (film.world c.pass.new.self) v ≡ printed (film.world c.pass.new.self) c.args.stream c.args.text.now). (
      le_refl (length c.args.text.now),
      d ∙ ap (printed (film.world c.pass.new.self) c.args.stream) (sym (take_all (length c.args.text.now) c.args.text.now (le_refl (length c.args.text.now)))),
    ))
    c.printing_of-what.ensures) c.in_ok-attempt.ensures
