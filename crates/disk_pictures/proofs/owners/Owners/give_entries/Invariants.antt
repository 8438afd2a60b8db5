-- The entries from this one on have theirs.
use Rattle.std.proofs.Common.{◌≡◌}
use Rattle.d64_image.specs.declared.place.Place.{Place}
use Rattle.disk_pictures.proofs.Owning.{rest_owner}
use Rattle.disk_pictures.specs.Owners.{owner_in}
use Rattle.disk_pictures.proofs.owners.Owners.give_entries.Given as goal

abbrev pub invariant-loop-number : goal.invariant-loop-number
invariant-loop-number l = (p : Place) → owner_in l.self p ≡ rest_owner l.files l.number p
