-- A number below the last one is that of the request before it, or that of no request that is kept.
use Rattle.std.proofs.Common.{◌≡◌, arith}
use Rattle.request_cards.proofs.Standings.{late_again, late_none, late_other}
use Rattle.request_cards.proofs.standing.late.Goals as goal

pub returns-in-Some : goal.returns-in-Some
returns-in-Some c =
    let same : c.args.request.now.number ≡ c.in-Some.kept.0.number = omega arith in
    late_again c.args.prior c.in-Some.kept c.args.request.now c.again.result c.in-Some.is same c.again.ensures

pub returns-in_default : goal.returns-in_default
returns-in_default c =
    late_other c.args.prior c.in-Some.kept c.args.request.now c.in-Some.is (λ e. omega (arith, e))

pub returns-in_default-2 : goal.returns-in_default-2
returns-in_default-2 c = late_none c.args.prior c.args.request.now c.in_default.is
