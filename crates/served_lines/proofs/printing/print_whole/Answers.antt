-- Call by call.
use Rattle.std.proofs.Common.{◌-◌, arith, length, drop}
use Rattle.std.proofs.lemmas.List.{length-drop, length-take}
use Rattle.one_host.specs.History.{Until}
use Rattle.one_host.proofs.Moments.{joined}
use Rattle.served_lines.specs.Printings.{OnlySaid}
use Rattle.served_lines.proofs.Printed.{print_after, print_moments}
use Rattle.served_lines.proofs.printing.print_whole.Goals as goal

pub returns-in-Err-clause-any_moment : goal.returns-in-Err-clause-any_moment
returns-in-Err-clause-any_moment g c known n le =
    let S = g.H.Host.history in
    let v = S.world c.args.host.now in
    joined S c.args.host.now c.loop-at.host c.print.new.self (Until n (OnlySaid v c.args.text.now)) (c.loop-at.invariant.any_moment known n le)
    (print_moments S c.loop-at.host c.print.new.self n v c.args.text.now c.loop-at.at (c.loop-at.invariant.so_far known n le) _ (c.print.ensures.steps known))

pub returns-then-count-eq0-clause-any_moment : goal.returns-then-count-eq0-clause-any_moment
returns-then-count-eq0-clause-any_moment g c known n le =
    let S = g.H.Host.history in
    let v = S.world c.args.host.now in
    joined S c.args.host.now c.loop-at.host c.print.new.self (Until n (OnlySaid v c.args.text.now)) (c.loop-at.invariant.any_moment known n le)
    (print_moments S c.loop-at.host c.print.new.self n v c.args.text.now c.loop-at.at (c.loop-at.invariant.so_far known n le) _ (c.print.ensures.steps known))

pub loop-at-preserved : goal.loop-at-preserved
loop-at-preserved g c =
    let S = g.H.Host.history in
    let v = S.world c.args.host.now in
    record {
      within = omega (arith, c.in-Ok.ensures.within, length-take (length c.args.text.now - c.loop-at.at) (drop c.loop-at.at c.args.text.now), length-drop c.loop-at.at c.args.text.now, c.loop-at-test.true);
      any_moment = λ known n le. joined S c.args.host.now c.loop-at.host c.print.new.self (Until n (OnlySaid v c.args.text.now)) (c.loop-at.invariant.any_moment known n le)
          (print_moments S c.loop-at.host c.print.new.self n v c.args.text.now c.loop-at.at (c.loop-at.invariant.so_far known n le) _ (c.print.ensures.steps known));
      so_far = λ known n le. print_after S c.loop-at.host c.print.new.self n v c.args.text.now c.loop-at.at (c.loop-at.invariant.so_far known n le) c.in-Ok.count (c.in-Ok.ensures.steps known);
    }
