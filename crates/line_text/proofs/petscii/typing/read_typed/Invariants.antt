-- The bytes so far have the text before the rest.
use Rattle.std.proofs.Common.{◌≡◌, ◌++◌, length}
use Rattle.line_text.specs.petscii.Quoted.{one_line}
use Rattle.line_text.proofs.lemmas.petscii.Typed.{AreTyped}
use Rattle.line_text.proofs.petscii.typing.read_typed.Given as goal

abbrev pub invariant-loop-rest : goal.invariant-loop-rest
invariant-loop-rest l = (l.text ≡ one_line l.set l.bytes.items ++ l.rest) × AreTyped l.bytes.items

abbrev pub decreases-loop-rest : goal.decreases-loop-rest
decreases-loop-rest l = length l.rest
