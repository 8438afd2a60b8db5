-- A place that is found is on the disk.
use Rattle.std.proofs.Common.{IsSome, None, ⊎_elim, ◌<◌, ◌≡◌, ◌≤◌, ℕ}
use Rattle.std.proofs.lemmas.Bool.{cases_lt}
use Rattle.d64_image.proofs.Places.{place_at-none, place_at-self}
use Rattle.d64_image.specs.Geometry.{sectors_on}
use Rattle.d64_image.specs.Places.{place_at}
use Rattle.d64_image.proofs.place.Place.known.Goals as goal

place_at-on : (t s : ℕ) → IsSome (place_at t s) → s < sectors_on t
place_at-on t s found = ⊎_elim
    (λ (on : s < sectors_on t). on)
    (λ (past : sectors_on t ≤ s). let none : place_at t s ≡ None = place_at-none t s past in absurd (cc))
    (cases_lt s (sectors_on t))

pub invariant_of-result : goal.invariant_of-result
invariant_of-result c = record { on_disk = place_at-on c.args.track c.args.sector c.requires }

pub returns : goal.returns
returns c = place_at-self (record { track = c.args.track; sector = c.args.sector; on_disk = _ })
