-- A quantity has nine digits at most, and an item five.
use Rattle.std.proofs.Common.{◌≡◌, arith, ◌∙◌, true, false}
use Rattle.request_cards.specs.declared.kind.Kind.TheVariants.{Move}
use Rattle.request_cards.specs.Requests.{same_kind}
use Rattle.request_cards.proofs.Amounts.{flag_is, moved_amounts, plain_amounts}
use Rattle.request_cards.proofs.Texts.{five_digits, nine_digits}
use Rattle.request_cards.proofs.request.Request.write_amounts.Goals as goal

pub write_number-start-requires : goal.write_number-start-requires
write_number-start-requires c = let five = five_digits c.from.result (omega arith) in (omega (arith, five), omega arith)

pub write_field-requires : goal.write_field-requires
write_field-requires c =
    let nine = nine_digits c.self.inside.quantity c.self.invariant.body.quantity_high in
    let five = five_digits c.from.result (omega arith) in
    (omega (arith, nine, five), omega arith)

pub write_number-requires : goal.write_number-requires
write_number-requires c =
    let nine = nine_digits c.self.inside.quantity c.self.invariant.body.quantity_high in
    (omega (arith, nine), omega arith)

pub returns-then-eq-clause-start : goal.returns-then-eq-clause-start
returns-then-eq-clause-start c =
    let nine = nine_digits c.self.inside.quantity c.self.invariant.body.quantity_high in
    let five = five_digits c.from.result (omega arith) in
    (omega arith, omega (arith, nine, five))

pub returns-else-eq-clause-start : goal.returns-else-eq-clause-start
returns-else-eq-clause-start c =
    let nine = nine_digits c.self.inside.quantity c.self.invariant.body.quantity_high in
    (omega arith, omega (arith, nine))

pub returns-then-eq-clause-written : goal.returns-then-eq-clause-written
returns-then-eq-clause-written c =
    let is : true ≡ same_kind c.self.inside.kind Move = c.if-eq.ensures ∙ flag_is c.self.inside.kind in
    moved_amounts c.args.self.now _ c.from.result c.args.room.now _ _ 36 c.self.view_is is c.from.ensures (omega arith)
    c.write_field.ensures.written c.write_number-start.ensures.written

pub returns-else-eq-clause-written : goal.returns-else-eq-clause-written
returns-else-eq-clause-written c =
    let is : false ≡ same_kind c.self.inside.kind Move = c.if-eq.ensures ∙ flag_is c.self.inside.kind in
    plain_amounts c.args.self.now _ c.args.room.now _ 36 c.self.view_is is (omega arith) c.write_number.ensures.written
