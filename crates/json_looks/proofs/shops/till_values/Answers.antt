-- The requests of one till more.
use Rattle.std.proofs.Common.{◌≡◌, ℕ, arith, map, subst}
use Rattle.std.specs.Prelude.{option_map}
use Rattle.json_looks.specs.Shops.{till_item, till_items}
use Rattle.json_looks.proofs.Gathered.{next-more, none-yet}
use Rattle.request_cards.specs.Tables.{told_of}
use Rattle.serde_json.specs.View.{view}
use Rattle.json_looks.proofs.shops.till_values.Goals as goal

pub loop-before-init : goal.loop-before-init
loop-before-init g c = λ s is. none-yet _ _ c.new-values.ensures.items

pub loop-before-preserved : goal.loop-before-preserved
loop-before-preserved g c = λ s is.
    next-more (λ till. till_item till (option_map (told_of till) (s.state.ledger.kept till))
    (option_map (told_of till) (s.state.prior till))) c.loop-before.before c.loop-before.values.items
    c.add_till.new.values.items (c.loop-before.invariant s is)
    (rw (← c.in-Ok-Ok.ensures.ok s is, ← c.in-Ok-Ok.ensures'.ok s is) c.in_ok-add_till.ensures)

pub returns : goal.returns
returns g c = λ s is.
    let all : c.loop-before.before ≡ 64 = omega (arith, c.loop-before.auto.before-end, c.loop-before-test.false) in
    subst (λ (n : ℕ). map view c.loop-before.values.items ≡ till_items s.state n) all (c.loop-before.invariant s is)
