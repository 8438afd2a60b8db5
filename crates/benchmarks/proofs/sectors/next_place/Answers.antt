use Rattle.std.proofs.Common.{ap}
use Rattle.d64_image.specs.declared.place.Place.{Place}
use Rattle.benchmarks.proofs.Walks.{first_again, next_track, on_track}
use Rattle.benchmarks.proofs.sectors.next_place.Goals as goal

pub returns-in-Some : goal.returns-in-Some
returns-in-Some c =
    on_track c.args.place c.in-Some.next (rw (c.track.ensures, c.sector.ensures) at c.in-Some.ensures.value)

pub returns-in-Some-new : goal.returns-in-Some-new
returns-in-Some-new c =
    next_track c.args.place c.in-Some-new.next (rw (c.track.ensures, c.sector.ensures) at c.in-None.ensures.value)
    (rw c.track-in-None.ensures at c.in-Some-new.ensures.value)

pub returns-in-None-new : goal.returns-in-None-new
returns-in-None-new c =
    first_again c.args.place c.default.result (rw (c.track.ensures, c.sector.ensures) at c.in-None.ensures.value)
    (rw c.track-in-None.ensures at c.in-None-new.ensures.value)
    (ap (λ (p : Place). p.track) c.default.ensures) (ap (λ (p : Place). p.sector) c.default.ensures)
