-- A number of at most nine digits fits, and is what its digits spell.
use Rattle.std.proofs.Common.{◌≡◌, ◌<◌, ◌^◌, arith, ◌∙◌, ap, sym, subst, length, get_or, IsTrue}
use Rattle.std.specs.Int.{IsInRange}
use Rattle.std.proofs.lemmas.List.{take_all}
use Rattle.request_cards.specs.CardTexts.{fixed}
use Rattle.request_cards.proofs.Widths.{fixed_digit, fixed_none, power_small, read_push}
use Rattle.request_cards.proofs.fixed.parse_digits.Goals as goal

pub loop-b-init : goal.loop-b-init
loop-b-init c = (sym (fixed_none 0), omega arith)

-- a number's bytes are digits
pub returns-then-not-are_digits-clause-none : goal.returns-then-not-are_digits-clause-none
returns-then-not-are_digits-clause-none c = λ n e.
    let yes : IsTrue c.are_digits.result = c.are_digits.ensures.1 (λ k h.
    subst (λ xs. IsInRange 48 57 (get_or xs k 0)) (sym e) (fixed_digit (length c.args.field.now) n k h)) in
    let not = c.if-not-are_digits.true in
    absurd (cc)

pub overflow_mul-number : goal.overflow_mul-number
overflow_mul-number c =
    let small = power_small c.loop-b.number c.loop-b.b-index c.loop-b.invariant.1 (omega arith) in omega (arith, small)

pub overflow_add-number : goal.overflow_add-number
overflow_add-number c =
    let small = power_small c.loop-b.number c.loop-b.b-index c.loop-b.invariant.1 (omega arith) in
    grind (arith, small, c.from.ensures)

pub loop-b-preserved : goal.loop-b-preserved
loop-b-preserved c =
    read_push c.args.field.now c.loop-b.b-index c.loop-b.number c.from.result c.loop-b.invariant c.loop-b-test.true
    (c.are_digits.ensures.0 c.if-not-are_digits.false c.loop-b.b-index c.loop-b-test.true) c.from.ensures

pub returns-clause-found : goal.returns-clause-found
returns-clause-found c =
    let all : c.loop-b.b-index ≡ length c.args.field.now = omega arith in (
      subst (λ k. c.loop-b.number < 10 ^ k) all c.loop-b.invariant.1,
      sym (take_all _ _ (omega arith)) ∙ c.loop-b.invariant.0 ∙ ap (λ k. fixed k c.loop-b.number) all,
    )
