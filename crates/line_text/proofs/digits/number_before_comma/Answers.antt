use Rattle.std.proofs.Common.{rules, ◌≡◌, ℕ, List, ◌∷◌, get_or, sym, subst, arith}
use Rattle.line_text.specs.Numbers.{Leads}
use Rattle.line_text.proofs.lemmas.digits.Numbers.{leads_one}
use Rattle.line_text.proofs.lemmas.digits.Fields.{before_read, before_refused, comma_first}
use Rattle.line_text.proofs.digits.number_before_comma.Goals as goal

-- no number of the range stands at the front
pub returns-in_err-n-clause-exact : goal.returns-in_err-n-clause-exact
returns-in_err-n-clause-exact c =
    rw c.from_residual.ensures
    (sym (before_refused c.args.low c.args.high c.args.bytes.now (omega arith)
    (λ n rest. c.in_err-n.ensures n (44 ∷ rest))))

-- no comma follows the number
pub returns-in_default-clause-exact : goal.returns-in_default-clause-exact
returns-in_default-clause-exact c =
    sym (before_refused c.args.low c.args.high c.args.bytes.now (omega arith) (λ n rest h g l.
    let text : c.in_ok-n.rest.now ≡ 44 ∷ rest = (leads_one _ _ _ n (44 ∷ rest) c.in_ok-n.ensures.2 l).1 in
    search (rules, text)))

-- a comma follows the number
pub returns-in-44-clause-exact : goal.returns-in-44-clause-exact
returns-in-44-clause-exact c =
    let found = c.in_ok-n.ensures in
    let comma : get_or c.in_ok-n.rest.now 0 0 ≡ 44 = omega arith in
    sym (before_read _ _ _ _ _ found.0 found.1
    (subst (λ (xs : List ℕ). Leads c.args.bytes.now c.in_ok-n.n xs) (comma_first c.in_ok-n.rest.now c.in-44.len_at_least
    comma) found.2))
