-- Each refusal is of a text where no number leads.
use Rattle.std.proofs.Common.{ℕ, ◌<◌, length, get_or, sym, subst, inl, inr, arith}
use Rattle.std.specs.Int.{IsInRange}
use Rattle.std.proofs.lemmas.List.{take_rest}
use Rattle.line_text.proofs.lemmas.digits.Numbers.{leads_first, leads_read, leads_some, leads_whole, no_digit}
use Rattle.line_text.proofs.lemmas.digits.Numbers.{read_more, read_stops, reads_none}
use Rattle.line_text.proofs.digits.leading_number.Goals as goal

-- no digit stands at the front
pub returns-then-i-eq0 : goal.returns-then-i-eq0
returns-then-i-eq0 c = λ n rest l.
    no_digit _ c.if-not-is_ascii_digit.ensures.cases
    (subst (λ (i : ℕ). IsInRange 48 57 (get_or c.args.bytes.now i 0)) (sym c.if-i-eq0.true) (leads_first _ n rest l))

-- there are more than ten digits
pub returns-then-i-eq10 : goal.returns-then-i-eq10
returns-then-i-eq10 c = λ n rest.
    read_stops _ _ _ n rest c.loop-i.invariant c.loop-i-test.true c.if-not-is_ascii_digit.ensures.cases
    (inl c.if-i-eq10.true)

-- a zero leads further digits
pub returns-then-i-gt0 : goal.returns-then-i-gt0
returns-then-i-gt0 c = λ n rest.
    read_stops _ _ _ n rest c.loop-i.invariant c.loop-i-test.true c.if-not-is_ascii_digit.ensures.cases
    (inr (c.if-i-gt0.true, c.if-number-eq0.true))

-- one more digit is read
pub loop-i-preserved : goal.loop-i-preserved
loop-i-preserved c =
    rw c.from.ensures
    (read_more _ _ _ c.loop-i.invariant c.loop-i-test.true c.if-not-is_ascii_digit.ensures.cases (omega arith)
    (λ some. omega (arith, c.else-number-eq0.either)))

-- there are no bytes
pub returns-then-is_empty : goal.returns-then-is_empty
returns-then-is_empty c = λ n rest l. let some : 0 < length c.args.bytes.now = leads_some _ n rest l in
    grind (arith, c.if-is_empty.ensures)

pub bounds-bytes-i : goal.bounds-bytes-i
bounds-bytes-i c = omega arith

pub slice_bounds-result-count : goal.slice_bounds-result-count
slice_bounds-result-count c = omega arith

pub slice_bounds-result-start : goal.slice_bounds-result-start
slice_bounds-result-start c = omega arith

pub slice_bounds-result-end : goal.slice_bounds-result-end
slice_bounds-result-end c = omega arith

pub overflow_mul-number : goal.overflow_mul-number
overflow_mul-number c = omega arith

pub overflow_sub-b : goal.overflow_sub-b
overflow_sub-b c = omega (arith, c.if-not-is_ascii_digit.ensures.cases.0)

pub overflow_add-number : goal.overflow_add-number
overflow_add-number c = omega arith

pub loop-i-init : goal.loop-i-init
loop-i-init c = reads_none c.args.bytes.now

-- no digit follows the number
pub returns-else-i-eq0 : goal.returns-else-i-eq0
returns-else-i-eq0 c =
    rw (take_rest c.args.bytes.now c.loop-i.i)
    (leads_read _ _ _ c.loop-i.invariant (omega arith) (no_digit _ c.if-not-is_ascii_digit.ensures.cases))

-- the number is all there is
pub returns-else-is_empty : goal.returns-else-is_empty
returns-else-is_empty c =
    let some : 0 < length c.args.bytes.now = grind (arith, c.if-is_empty.ensures) in
    leads_whole c.args.bytes.now c.loop-i.i _ c.loop-i.invariant (omega arith) (omega arith)
