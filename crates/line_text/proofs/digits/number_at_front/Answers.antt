-- One number at most stands at the front, so that none of the range does where that one is outside it.
use Rattle.std.proofs.Common.{arith}
use Rattle.line_text.proofs.lemmas.digits.Numbers.{leads_one}
use Rattle.line_text.proofs.digits.number_at_front.Goals as goal
use Rattle.line_text.proofs.digits.number_at_front.Goals.{in_default-via-in-Some+then-from-n+else-n-from}
use Rattle.line_text.proofs.digits.number_at_front.Goals.{in_default-via-in-Some+else-from-n}
use Rattle.line_text.proofs.digits.number_at_front.Goals.{in_default-via-in_default}

pub returns-in_default : goal.returns-in_default
returns-in_default c = λ n rest h g l.
    elim c.in_default.branch [
      | in_default-via-in-Some+then-from-n+else-n-from w ↦
          let one = leads_one _ _ _ n rest w.in-Some.ensures l in omega (arith, one.0)
      | in_default-via-in-Some+else-from-n w ↦
          let one = leads_one _ _ _ n rest w.in-Some.ensures l in omega (arith, one.0)
      | in_default-via-in_default w ↦ w.in_default.ensures n rest l
    ]
