-- The chain of an entry, walked and compared.
use Rattle.std.proofs.Common.{sym, ◌∙◌}
use Rattle.d64_image.specs.Memory.{disk_image}
use Rattle.damaged_files.proofs.lemmas.sides.Walks.{no-chain, passed, walked-same}
use Rattle.damaged_files.proofs.sides.comparing.keeps_chain.Goals as goal

pub returns-in_default-clause-told : goal.returns-in_default-clause-told
returns-in_default-clause-told c t = no-chain (disk_image c.args.before.now) (disk_image c.args.after.now)
    c.args.slot.now c.new.result.bytes.now c.new.ensures c.in_default.ensures

pub returns-then-is_ok-clause-told : goal.returns-then-is_ok-clause-told
returns-then-is_ok-clause-told c t =
    let (u, chain) = passed c.walk_chain.result _ (sym c.is_ok.ensures.value ∙ c.if-is_ok.true)
    c.walk_chain.ensures.chain in
    walked-same (disk_image c.args.before.now) (disk_image c.args.after.now) (disk_image c.walk_chain.new.disk)
    c.args.slot.now c.new.result.bytes.now c.in-Some.first c.walk_chain.new.places.items c.as_slice.result.now u
    c.walk_chain.ensures.reads.image c.new.ensures c.in-Some.ensures c.as_slice.ensures.value chain
    (c.are_same.ensures t)
