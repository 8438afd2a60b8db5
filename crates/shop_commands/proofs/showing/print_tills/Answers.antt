-- A till's lines were printed after the others.
use Rattle.std.proofs.Common.{◌≡◌, ℕ, subst, arith}
use Rattle.std.specs.Prelude.{option_map}
use Rattle.std.specs.Io.KnownBytes.{Appends}
use Rattle.request_cards.specs.Tables.{told_of}
use Rattle.shop_commands.proofs.Lines.{none-yet, one-more}
use Rattle.shop_commands.specs.Shows.{till_part, up_to}
use Rattle.shop_commands.proofs.showing.print_tills.Goals as goal

pub loop-before-init : goal.loop-before-init
loop-before-init g c = λ s is. none-yet _ _

pub loop-before-preserved : goal.loop-before-preserved
loop-before-preserved g c = λ s is.
    one-more _ _ _ c.loop-before.before
    (λ till. till_part (option_map (told_of till) (s.state.ledger.kept till))
    (option_map (told_of till) (s.state.prior till)))
    (c.loop-before.invariant s is)
    (rw (← c.in-Ok-Ok.ensures.ok s is, ← c.in-Ok-Ok.ensures'.ok s is) c.in_ok-print_till.ensures.ok)

pub returns-clause-ok : goal.returns-clause-ok
returns-clause-ok g c = λ s is.
    let all : c.loop-before.before ≡ 64 = omega (arith, c.loop-before.auto.before-end, c.loop-before-test.false) in
    subst (λ (n : ℕ). Appends (g.W.Write.contents c.args.out.now) (g.W.Write.contents c.loop-before.out)
    (up_to n (λ till. till_part (option_map (told_of till) (s.state.ledger.kept till))
    (option_map (told_of till) (s.state.prior till)))))
    all (c.loop-before.invariant s is)
