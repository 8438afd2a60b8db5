use Rattle.d64_image.proofs.Places.{place_at-self, place_at-none}
use Rattle.std.proofs.Common.{sym, arith}
use Rattle.d64_image.proofs.place.Place.new.Goals as goal

pub returns-then-sector-sectors_on-clause-value : goal.returns-then-sector-sectors_on-clause-value
returns-then-sector-sectors_on-clause-value c =
    sym (place_at-self (record { track = c.args.track; sector = c.args.sector; on_disk = _ }))

pub returns-else-sector-sectors_on-clause-value : goal.returns-else-sector-sectors_on-clause-value
returns-else-sector-sectors_on-clause-value c = sym (place_at-none c.args.track c.args.sector (omega arith))
