use Rattle.line_text.proofs.lemmas.digits.Numbers.{IsReadAs}
use Rattle.line_text.proofs.digits.leading_number.Given as goal

-- what lies before the byte was read
abbrev pub invariant-loop-i : goal.invariant-loop-i
invariant-loop-i l = IsReadAs l.bytes l.i l.number
