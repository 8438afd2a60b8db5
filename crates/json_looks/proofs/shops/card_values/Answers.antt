-- The cards of one item more.
use Rattle.std.proofs.Common.{◌≡◌, ◌+◌, ◌++◌, ℕ, Option, arith, map, subst}
use Rattle.json_looks.specs.Shops.{card_item, card_items}
use Rattle.json_looks.proofs.Gathered.{next-more, none-yet}
use Rattle.serde_json.specs.View.{view}
use Rattle.json_looks.proofs.shops.card_values.Goals as goal

pub loop-before-init : goal.loop-before-init
loop-before-init g c = λ s is. none-yet _ _ c.new-values.ensures.items

pub loop-before-preserved : goal.loop-before-preserved
loop-before-preserved g c = λ s is.
    next-more (λ item. card_item item (s.state.ledger.cards item)) c.loop-before.before c.loop-before.values.items
    c.add_card.new.values.items (c.loop-before.invariant s is)
    (subst (λ (q : Option ℕ). map view c.add_card.new.values.items
    ≡ map view c.loop-before.values.items ++ card_item (c.loop-before.before + 1) q) (c.in-Ok.ensures.ok s is)
    c.in_ok-add_card.ensures)

pub returns : goal.returns
returns g c = λ s is.
    let all : c.loop-before.before ≡ 10160 = omega (arith, c.loop-before.auto.before-end, c.loop-before-test.false) in
    subst (λ (n : ℕ). map view c.loop-before.values.items ≡ card_items s.state n) all (c.loop-before.invariant s is)
