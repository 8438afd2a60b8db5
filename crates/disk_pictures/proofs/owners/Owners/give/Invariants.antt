-- The sectors so far are the owner's.
use Rattle.std.proofs.Common.{◌≡◌, if◌then◌else◌, take}
use Rattle.d64_image.specs.declared.place.Place.{Place}
use Rattle.disk_pictures.specs.Drawings.{has}
use Rattle.disk_pictures.specs.Owners.{owner_in}
use Rattle.disk_pictures.proofs.owners.Owners.give.Given as goal

abbrev pub invariant-loop-place : goal.invariant-loop-place
invariant-loop-place l = (p : Place) → owner_in l.self p ≡
    (if has (take l.place-index l.places) p then l.owner else owner_in l.fn.self p)
