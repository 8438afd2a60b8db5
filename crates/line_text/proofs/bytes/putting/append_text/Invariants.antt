-- The texts of the bytes that are left come behind what was put.
use Rattle.std.proofs.Common.{◌≡◌, ◌≤◌, ◌+◌, ◌*◌, ◌++◌, length, take}
use Rattle.line_text.specs.bytes.Texts.{text_of}
use Rattle.line_text.proofs.bytes.putting.append_text.Given as goal

abbrev pub invariant-loop-rest : goal.invariant-loop-rest
invariant-loop-rest l = (length l.room ≡ length l.initial.room)
    × (l.start ≤ l.end) × (l.end + 3 * length l.rest ≤ l.start + 3 * length l.bytes)
    × (take l.end l.room ++ text_of l.rest ≡ take l.start l.initial.room ++ text_of l.bytes)

abbrev pub decreases-loop-rest : goal.decreases-loop-rest
decreases-loop-rest l = length l.rest
