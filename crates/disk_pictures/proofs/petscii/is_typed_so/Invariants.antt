-- The bytes so far are common.
use Rattle.std.proofs.Common.{◌≡◌, take, true}
use Rattle.std.specs.List.{list_all}
use Rattle.disk_pictures.specs.Petscii.{is_common}
use Rattle.disk_pictures.proofs.petscii.is_typed_so.Given as goal

abbrev pub invariant-loop-byte : goal.invariant-loop-byte
invariant-loop-byte l = list_all is_common (take l.byte-index l.name) ≡ true
