-- The ending's bytes so far were appended.
use Rattle.std.proofs.Common.{◌≡◌, ◌+◌, ◌++◌, take}
use Rattle.arrayvec.specs.ArrayVec.{array_vec_len}
use Rattle.line_text.proofs.petscii.file_names.push_ending.Given as goal

abbrev pub invariant-loop-byte : goal.invariant-loop-byte
invariant-loop-byte l =
    (l.text.items ≡ l.fn.text.items ++ take l.byte-index l.byte-items)
    × (array_vec_len l.text ≡ array_vec_len l.fn.text + l.byte-index)
