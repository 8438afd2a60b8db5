-- The blocks were taken as they were reached, or the long chain was.
use Rattle.std.proofs.Common.{Bool, ap, arith, length, sym, ◌∙◌}
use Rattle.d64_image.specs.Memory.{disk_image}
use Rattle.long_chains.specs.Chains.{if_ended}
use Rattle.file_rescues.proofs.lemmas.rescue.Cvt.{chain-rescued, if-taken, long-rescued}
use Rattle.file_rescues.proofs.rescue.rescuing.rescue_chain.Goals as goal

pub returns-then-find_long-clause-ok : goal.returns-then-find_long-clause-ok
returns-then-find_long-clause-ok c =
    if-taken c.with_chain.result _ _ _ _ (λ file slot pairs of cvt.
    long-rescued c.args.image.now (disk_image c.args.disk.now) c.args.slot.now file _ _ _ c.as_slice.result.now
    c.find_long.new.chain.items c.requires.long c.requires.geos cvt slot pairs of c.as_slice.ensures.value c.reach_file-reach.ensures
    (ap (λ (b : Bool). if_ended b c.find_long.new.chain.items) (sym c.if-find_long.true) ∙ c.find_long.ensures.value)
    c.find_long.ensures.inside (omega (arith, ap length c.as_slice.ensures.value, c.as_slice.ensures.fits)))
    c.with_chain.ensures.slot c.with_chain.ensures.pairs c.with_chain.ensures.ok c.with_chain.ensures.cvt

pub returns-clause-ok : goal.returns-clause-ok
returns-clause-ok c =
    chain-rescued c.args.image.now (disk_image c.args.disk.now) c.args.slot.now c.in_ok-file.file _ _ _ c.requires.long c.requires.geos
    c.in_ok-file.ensures.cvt c.in_ok-file.ensures.slot (c.in_ok-file.ensures.blocks ∙ c.as_slice-2.ensures.value) c.in_ok-file.ensures.pairs
    c.in_ok-file.ensures.sectors c.in_ok-file.ensures.end.1 c.in_ok-file.ensures.end.0 c.reach_file-reach.ensures
    (ap (λ (b : Bool). if_ended b c.find_long.new.chain.items) (sym c.if-find_long.false) ∙ c.find_long.ensures.value)
