-- The first shared block is among those that are left.
use Rattle.std.proofs.Common.{◌≡◌, List, drop}
use Rattle.d64_image.specs.declared.place.Place.{Place}
use Rattle.damaged_files.specs.reached.Owned.{CountsAll}
use Rattle.damaged_files.specs.reached.Sharing.{first_shared}
use Rattle.damaged_files.proofs.reached.sharing.Owners.first_shared.Given as goal

abbrev pub invariant-loop-block : goal.invariant-loop-block
invariant-loop-block l =
    (all : List Place) → CountsAll l.self all → first_shared all l.blocks ≡ first_shared all (drop l.block-index l.blocks)
