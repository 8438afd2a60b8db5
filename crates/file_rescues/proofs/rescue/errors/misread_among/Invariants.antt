-- Those of the blocks so far that weren't read.
use Rattle.std.proofs.Common.{◌≡◌, take}
use Rattle.std.specs.Prelude.{filter}
use Rattle.file_rescues.specs.rescue.Errors.{is_misread}
use Rattle.file_rescues.proofs.rescue.errors.misread_among.Given as goal

abbrev pub invariant-loop-place : goal.invariant-loop-place
invariant-loop-place l = l.places.items ≡ filter (is_misread l.image) (take l.place-index l.blocks)
