-- All of a file of GEOS was taken, or what can be reached of another file.
use Rattle.std.proofs.Common.{Bool, ap, arith, length, sym, ◌∙◌}
use Rattle.d64_image.specs.Memory.{disk_image}
use Rattle.file_rescues.proofs.lemmas.rescue.Cvt.{if-taken, parts-rescued}
use Rattle.geos_files.specs.Long.{if_taken}
use Rattle.file_rescues.proofs.rescue.rescuing.rescue.Goals as goal

pub returns-then-find_long_geos-clause-ok : goal.returns-then-find_long_geos-clause-ok
returns-then-find_long_geos-clause-ok c =
    if-taken c.with_chain.result _ _ _ _ (λ file slot pairs of cvt.
    parts-rescued c.args.image.now (disk_image c.args.disk.now) c.args.slot.now file c.as_slice.result.now
    c.find_long_geos.new.sectors.items c.as_slice-then-find_long_geos.result.now c.find_long_geos.new.pairs.items
    (ap (λ (b : Bool). if_taken b (c.find_long_geos.new.sectors.items, c.find_long_geos.new.pairs.items))
    (sym c.if-find_long_geos.true) ∙ c.find_long_geos.ensures.value)
    slot pairs of cvt c.as_slice.ensures.value c.as_slice-then-find_long_geos.ensures.value c.find_long_geos.ensures.inside
    c.find_long_geos.ensures.few (omega (arith, ap length c.as_slice-then-find_long_geos.ensures.value, c.as_slice-then-find_long_geos.ensures.fits)))
    c.with_chain.ensures.slot c.with_chain.ensures.pairs c.with_chain.ensures.ok c.with_chain.ensures.cvt

pub rescue_other-requires : goal.rescue_other-requires
rescue_other-requires c =
    sym c.find_long_geos.ensures.value
    ∙ ap (λ (b : Bool). if_taken b (c.find_long_geos.new.sectors.items, c.find_long_geos.new.pairs.items)) c.if-find_long_geos.false
