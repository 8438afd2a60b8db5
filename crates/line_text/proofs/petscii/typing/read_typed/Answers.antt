-- Where no byte's text stands at the front, or there are too many bytes, no bytes have this text.
use Rattle.std.proofs.Common.{◌≤◌, length, arith, refl}
use Rattle.line_text.proofs.lemmas.petscii.Typed.{none-here, none-more, shorter}
use Rattle.line_text.proofs.petscii.typing.read_typed.Goals as goal

pub returns-in_default-clause-none : goal.returns-in_default-clause-none
returns-in_default-clause-none c = λ _ bytes few.
    let some : 1 ≤ length c.loop-rest.rest.now = grind (arith, c.loop-rest-test.true, c.is_empty.ensures) in
    none-here c.args.set c.args.text.now c.loop-rest.rest.now c.loop-rest.bytes.items c.loop-rest.invariant.1
    c.loop-rest.invariant.0 some c.in_default.ensures bytes

pub returns-then-is_err-clause-none : goal.returns-then-is_err-clause-none
returns-then-is_err-clause-none c = λ _ bytes few.
    let some : 1 ≤ length c.loop-rest.rest.now = grind (arith, c.loop-rest-test.true, c.is_empty.ensures) in
    let full : 254 ≤ length c.loop-rest.bytes.items =
    grind (arith, c.try_push.ensures.variant, c.is_err.ensures.value, c.if-is_err.true) in
    none-more c.args.set c.args.text.now c.loop-rest.rest.now c.loop-rest.bytes.items c.loop-rest.invariant.1
    c.loop-rest.invariant.0 some full bytes few

pub loop-rest-smaller : goal.loop-rest-smaller
loop-rest-smaller c =
    shorter c.args.set c.in-Some.byte c.loop-rest.rest.now c.in-Some.behind.now c.in-Some.ensures.1
