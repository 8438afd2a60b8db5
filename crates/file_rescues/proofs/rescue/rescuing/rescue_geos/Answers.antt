-- The blocks and the pairs were taken as they were reached.
use Rattle.std.proofs.Common.{ap, arith, length, ◌∙◌}
use Rattle.d64_image.specs.Memory.{disk_image}
use Rattle.file_rescues.proofs.lemmas.rescue.Cvt.{geos-rescued}
use Rattle.file_rescues.proofs.rescue.rescuing.rescue_geos.Goals as goal

pub returns-clause-ok : goal.returns-clause-ok
returns-clause-ok c = λ image none.
    geos-rescued image (disk_image c.args.disk.now) c.args.slot.now c.args.entry.now c.in_ok-file.file _ _ _ _ none c.requires.geos
    c.in_ok-file.ensures.cvt c.in_ok-file.ensures.slot (c.in_ok-file.ensures.blocks ∙ c.as_slice.ensures.value)
    (c.in_ok-file.ensures.pairs ∙ c.as_slice-2.ensures.value) c.in_ok-file.ensures.sectors c.in_ok-file.ensures.end.1 c.in_ok-file.ensures.end.0
    c.reach_geos-reach.ensures.reach c.reach_geos-reach.ensures.few
    (omega (arith, ap length c.as_slice-2.ensures.value, c.as_slice-2.ensures.fits))
