-- The table is read at the place's index.
use Rattle.std.proofs.Common.{refl}
use Rattle.layout_check.specs.Owners.{owner_of}
use Rattle.layout_check.proofs.owners.Owners.owner.Goals as goal

pub returns : goal.returns
unfolding owner_of
returns c = rw c.index.ensures.value refl
