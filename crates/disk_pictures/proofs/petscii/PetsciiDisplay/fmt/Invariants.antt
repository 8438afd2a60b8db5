-- The signs of the bytes so far were written.
use Rattle.std.proofs.Common.{take}
use Rattle.std.specs.Prelude.{flat_map}
use Rattle.std.specs.Fmt.{HasWritten, IsPlainFormatter}
use Rattle.disk_pictures.specs.Petscii.{petscii_byte}
use Rattle.disk_pictures.proofs.petscii.PetsciiDisplay.fmt.Given as goal

abbrev pub invariant-loop-byte : goal.invariant-loop-byte
invariant-loop-byte g l =
    IsPlainFormatter l.initial.f
    → HasWritten g.W.Write.write_str_gives l.initial.f (flat_map petscii_byte (take l.byte-index l.byte-items)) l.f
