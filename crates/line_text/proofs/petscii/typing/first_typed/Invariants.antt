-- No byte that was tried is at the front.
use Rattle.std.proofs.Common.{◌≡◌, ◌≢◌, ◌<◌, ◌++◌, ℕ, List, true}
use Rattle.line_text.specs.petscii.Quoted.{quoted_byte}
use Rattle.line_text.specs.petscii.Typing.{is_typed}
use Rattle.line_text.proofs.petscii.typing.first_typed.Given as goal

abbrev pub invariant-loop-byte : goal.invariant-loop-byte
invariant-loop-byte l = (b : ℕ) (rest : List ℕ) → b < l.byte → is_typed b ≡ true → l.text ≢ quoted_byte l.set b ++ rest
