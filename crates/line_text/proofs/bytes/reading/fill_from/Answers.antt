-- Where no byte's text stands at the front, or there are too many bytes, no bytes have this text.
use Rattle.std.proofs.Common.{◌≤◌, length, arith}
use Rattle.line_text.proofs.lemmas.bytes.Texts.{none-here, none-more}
use Rattle.line_text.proofs.bytes.reading.fill_from.Goals as goal

pub returns-in_default-clause-none : goal.returns-in_default-clause-none
returns-in_default-clause-none c = λ _ bytes small few.
    let some : 1 ≤ length c.loop-rest.rest.now = grind (arith, c.loop-rest-test.true, c.is_empty.ensures) in
    none-here c.args.text.now c.loop-rest.rest.now c.loop-rest.bytes.items c.loop-rest.invariant some
    c.in_default.ensures bytes small

pub returns-then-is_err-clause-none : goal.returns-then-is_err-clause-none
returns-then-is_err-clause-none c = λ _ bytes small few.
    let some : 1 ≤ length c.loop-rest.rest.now = grind (arith, c.loop-rest-test.true, c.is_empty.ensures) in
    let full : 254 ≤ length c.loop-rest.bytes.items =
    grind (arith, c.try_push.ensures.variant, c.is_err.ensures.value, c.if-is_err.true) in
    none-more c.args.text.now c.loop-rest.rest.now c.loop-rest.bytes.items c.loop-rest.invariant some full bytes few
