-- The name's bytes so far were appended.
use Rattle.std.proofs.Common.{◌≡◌, ◌+◌, ◌++◌, map, take}
use Rattle.arrayvec.specs.ArrayVec.{array_vec_len}
use Rattle.line_text.specs.petscii.FileNames.{file_byte}
use Rattle.line_text.proofs.petscii.file_names.push_name.Given as goal

abbrev pub invariant-loop-byte : goal.invariant-loop-byte
invariant-loop-byte l =
    (l.text.items ≡ l.fn.text.items ++ map file_byte (take l.byte-index l.name))
    × (array_vec_len l.text ≡ array_vec_len l.fn.text + l.byte-index)
