-- They are those of the table.
use Rattle.std.proofs.Common.{refl}
use Rattle.layout_check.specs.Owners.{owner_of}
use Rattle.layout_check.proofs.owners.Owners.numbers.Goals as goal

pub returns : goal.returns
unfolding owner_of
returns c p = refl
