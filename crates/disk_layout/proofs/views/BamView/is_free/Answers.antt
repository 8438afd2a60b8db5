-- The bit of the sector in its track's three bytes.
use Rattle.disk_layout.proofs.lemmas.map.Bits.{bits-inside, free-bit}
use Rattle.disk_layout.proofs.views.BamView.is_free.Goals as goal

pub bounds-self-track : goal.bounds-self-track
bounds-self-track c = bits-inside c.args.place c.track.result c.sector-sector.result c.track.ensures
    c.sector-sector.ensures

pub returns : goal.returns
returns c = free-bit c.args.self.now.bytes.now c.args.place c.track.result c.sector-sector.result c.track.ensures
    c.sector-sector.ensures
