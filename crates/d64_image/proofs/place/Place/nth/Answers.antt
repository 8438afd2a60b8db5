-- Zone by zone: how many sectors are below its first track.
use Rattle.std.proofs.Common.{arith}
use Rattle.d64_image.proofs.Places.{zones_start}
use Rattle.d64_image.proofs.place.Place.nth.Goals as goal

pub returns-in-0-to-356 : goal.returns-in-0-to-356
returns-in-0-to-356 c = omega (arith, zones_start.0, c.in_zone.ensures)

pub returns-in-357-to-489 : goal.returns-in-357-to-489
returns-in-357-to-489 c = omega (arith, zones_start.1, c.in_zone-in-357-to-489.ensures)

pub returns-in-490-to-597 : goal.returns-in-490-to-597
returns-in-490-to-597 c = omega (arith, zones_start.2, c.in_zone-in-490-to-597.ensures)

pub returns-in_default : goal.returns-in_default
returns-in_default c = omega (arith, zones_start.3, c.in_zone-in_default.ensures)
