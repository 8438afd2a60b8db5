-- The blocks so far were written.
use Rattle.std.proofs.Common.{◌++◌, take}
use Rattle.std.specs.Fmt.{HasWritten, IsPlainFormatter}
use Rattle.std.specs.Prelude.{codes, flat_map}
use Rattle.file_rescues.specs.rescue.Errors.{misread_text}
use Rattle.file_rescues.proofs.rescue.errors.MoreErrorsDisplay.fmt.Given as goal

abbrev pub invariant-loop-place : goal.invariant-loop-place
invariant-loop-place g l =
    IsPlainFormatter l.initial.f
    → HasWritten g.W.Write.write_str_gives l.initial.f
    (flat_map (λ p. codes " " ++ misread_text l.self.image.now p) (take l.place-index l.place-items)) l.f
