-- Sector by sector.
use Rattle.std.proofs.Common.{◌≡◌, arith, subst}
use Rattle.line_server.proofs.lemmas.logged.Bringing.{AreBrought, brought, none_brought}
use Rattle.line_server.proofs.logged.keeping.take_changes.Goals as goal

pub loop-i-init : goal.loop-i-init
loop-i-init c = none_brought c.args.kept.now c.args.now.now c.args.marked.now c.requires.kept

pub returns-clause-brought : goal.returns-clause-brought
returns-clause-brought c =
    let all : c.loop-i.i ≡ 683 = omega (arith, c.loop-i-test.false, c.loop-i.auto.i-end) in
    brought c.args.kept.now c.loop-i.kept c.args.now.now c.args.marked.now c.loop-i.touched
    (subst (AreBrought c.args.kept.now c.loop-i.kept c.args.now.now c.args.marked.now c.loop-i.touched) all c.loop-i.invariant)
    c.requires.now
