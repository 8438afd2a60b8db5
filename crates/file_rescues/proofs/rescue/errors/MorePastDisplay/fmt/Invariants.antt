-- The blocks so far were written.
use Rattle.std.proofs.Common.{◌++◌, take}
use Rattle.std.specs.Fmt.{HasWritten, IsPlainFormatter}
use Rattle.std.specs.Prelude.{codes, flat_map}
use Rattle.file_rescues.specs.rescue.Errors.{misread_past_text}
use Rattle.file_rescues.proofs.rescue.errors.MorePastDisplay.fmt.Given as goal

abbrev pub invariant-loop-number : goal.invariant-loop-number
invariant-loop-number g l =
    IsPlainFormatter l.initial.f
    → HasWritten g.W.Write.write_str_gives l.initial.f
    (flat_map (λ p. codes " " ++ misread_past_text l.self.image.now p) (take l.number-index l.number-items)) l.f
