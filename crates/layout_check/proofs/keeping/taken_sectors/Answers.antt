-- The map was read, and what it calls taken marked.
use Rattle.std.proofs.Common.{ap, ◌∙◌}
use Rattle.std.proofs.lemmas.Result.{err_from_is_err_and}
use Rattle.d64_image.specs.Images.{sector}
use Rattle.d64_image.specs.declared.place.Place.{Place}
use Rattle.layout_check.proofs.lemmas.mending.MapMends.{device_told}
use Rattle.layout_check.proofs.lemmas.owners.Marking.{taken-of}
use Rattle.layout_check.proofs.keeping.taken_sectors.Goals as goal

pub returns-clause-table : goal.returns-clause-table
returns-clause-table g c =
    let (ps, marked, long) = c.mark_strays-strays.ensures.marked in
    taken-of _ c.args.found c.read_sector.new.to c.mark_strays-strays.new.owners ps _ c.requires
    (c.in_ok-read_sector.ensures.sector
    ∙ ap (λ (p : Place). sector (g.D.Sectors.history.image c.args.disk.now) p) c.map_place.ensures)
    (rw (← c.into_owners-owners.ensures) marked) long

pub returns-in_err-read_sector-clause-failures : goal.returns-in_err-read_sector-clause-failures
returns-in_err-read_sector-clause-failures g c =
    let p = err_from_is_err_and c.from_residual.result c.from_residual.ensures.1 in
    let read = c.in_err-read_sector.ensures in
    rw (p.1, p.2) (device_told g.D.Sectors.history (Unit {0}) c.args.disk.now c.read_sector.new.disk c.map_place.result
    _ read.told read.failures read.failed)
