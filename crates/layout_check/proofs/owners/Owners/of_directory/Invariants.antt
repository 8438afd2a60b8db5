use Rattle.std.proofs.Common.{take}
use Rattle.layout_check.specs.Owners.{IsSystem}
use Rattle.layout_check.proofs.owners.Owners.of_directory.Given as goal

abbrev pub invariant-loop-place : goal.invariant-loop-place
invariant-loop-place l = IsSystem l.owners (take l.place-index l.directory)
