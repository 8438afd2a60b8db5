-- The lines of 80 items were printed after the others.
use Rattle.std.proofs.Common.{◌≡◌, ◌+◌, ◌-◌, ◌*◌, ◌++◌, ℕ, ap, arith, drop, subst, take, ◌∙◌}
use Rattle.std.proofs.KnownBytes.{Appends-trans}
use Rattle.std.proofs.lemmas.List.{length-drop, take_all}
use Rattle.std.specs.Io.KnownBytes.{Appends}
use Rattle.shop_commands.proofs.Lines.{none-yet}
use Rattle.shop_commands.specs.Shows.{cards_to}
use Rattle.shop_commands.proofs.showing.print_cards.Goals as goal

pub loop-time-init : goal.loop-time-init
loop-time-init g c = λ s is. none-yet _ _

pub loop-time-preserved : goal.loop-time-preserved
loop-time-preserved g c = λ s is.
    let more : 80 * c.loop-time.time + 80 ≡ 80 * (c.loop-time.time + 1) = omega arith in
    let rest = drop c.in_ok-start.start c.write_cards.new.room in
    let whole : take (1920 - c.in_ok-start.start) rest ≡ rest =
    take_all _ rest
    (omega (arith, length-drop c.in_ok-start.start c.write_cards.new.room, c.write_cards.ensures.long)) in
    subst (Appends (g.W.Write.contents c.args.out.now) (g.W.Write.contents c.put.new.out))
    (ap (λ bytes. cards_to s.state (80 * c.loop-time.time) ++ bytes) whole ∙ c.in_ok-start.ensures.ok s is
    ∙ ap (cards_to s.state) more)
    (Appends-trans _ _ _ (cards_to s.state (80 * c.loop-time.time)) _ (c.loop-time.invariant s is)
    c.in_ok-put.ensures.ok)

pub returns-clause-ok : goal.returns-clause-ok
returns-clause-ok g c = λ s is.
    let all : 80 * c.loop-time.time ≡ 10160 = omega (arith, c.loop-time.auto.time-end, c.loop-time-test.false) in
    subst (λ (n : ℕ). Appends (g.W.Write.contents c.args.out.now) (g.W.Write.contents c.loop-time.out)
    (cards_to s.state n))
    all (c.loop-time.invariant s is)
