-- The field is the number's text where nothing follows it.
use Rattle.std.proofs.Common.{◌≡◌, [], length, sym, ap, arith}
use Rattle.line_text.proofs.lemmas.digits.Numbers.{leads_one}
use Rattle.line_text.proofs.lemmas.digits.Fields.{number_read, number_refused, empty_of}
use Rattle.line_text.proofs.digits.number.Goals as goal

-- nothing follows the number
pub returns-in-Some-clause-exact : goal.returns-in-Some-clause-exact
returns-in-Some-clause-exact c =
    let found = c.in-Some.ensures in
    let none : length c.in-Some.rest.now ≡ 0 = grind (arith, c.if-is_empty.ensures) in
    sym (number_read _ _ _ _ _ found.0 found.1 found.2 (empty_of _ none))

-- something follows the number
pub returns-in_default-clause-exact : goal.returns-in_default-clause-exact
returns-in_default-clause-exact c =
    sym (number_refused c.args.low c.args.high c.args.field.now (omega arith) (λ n h g l.
    let one = leads_one _ _ _ n [] c.in-Some.ensures.2 l in
    let none : length c.in-Some.rest.now ≡ 0 = ap length one.1 in
    grind (arith, c.if-is_empty.ensures)))

-- no number of the range stands at the front
pub returns-in_default-2-clause-exact : goal.returns-in_default-2-clause-exact
returns-in_default-2-clause-exact c =
    let none = rw c.in_default.is at c.number_at_front.ensures in
    sym (number_refused c.args.low c.args.high c.args.field.now (omega arith) (λ n. none n []))
