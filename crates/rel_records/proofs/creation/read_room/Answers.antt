-- The directory's sectors, and the first free slot in them.
use Rattle.std.proofs.Common.{arith, length, subst, sym, ap, ℕ, List, ◌≤◌}
use Rattle.d64_image.proofs.Moments.{no_write_then, reads_no_write, reads_then}
use Rattle.d64_image.specs.declared.place.Place.{Place}
use Rattle.disk_layout.specs.Chain.{IsChain}
use Rattle.disk_layout.specs.Directory.{directory_start}
use Rattle.disk_layout.specs.Fault.{HoldsOfChain}
use Rattle.disk_layout.proofs.lemmas.chains.Directories.{few-sectors}
use Rattle.rel_records.proofs.lemmas.creation.TakenNames.{room-of, walked}
use Rattle.rel_records.proofs.lemmas.reading.Found.{chain-failed}
use Rattle.rel_records.proofs.creation.read_room.Goals as goal
use Rattle.std.proofs.lemmas.List.{length_push}

pub returns-in_default-clause-failures : goal.returns-in_default-clause-failures
returns-in_default-clause-failures g c =
    let S = g.D.Sectors.history in
    let (l, h) = c.requires.sound in
    let P : Place → Type 0 = λ p. HoldsOfChain (S.failed_at c.walk_chain.new.disk) (S.image c.args.disk.now) p
    c.in_default.field-0 in
    chain-failed ℕ S c.args.disk.now c.walk_chain.new.disk _ (S.image c.args.disk.now) directory_start l.directory
    h.directory.last c.in_default.field-0 h.directory.chain
    (subst P c.directory_start.ensures c.in_default.ensures.fault) c.in_default.ensures.failures

pub returns-in_default-find_room-clause-quiet : goal.returns-in_default-find_room-clause-quiet
returns-in_default-find_room-clause-quiet g c =
    let S = g.D.Sectors.history in
    no_write_then S _ _ _ (reads_no_write S _ _ _ c.in-Ok.ensures.reads)
    (reads_no_write S _ _ _ c.in_default-find_room.ensures.reads)

pub returns-clause-ok : goal.returns-clause-ok
returns-clause-ok g c l h =
    let S = g.D.Sectors.history in
    let P : Place → List Place → Type 0 = λ p ps. IsChain (S.image c.args.disk.now) p ps c.in-Ok.field-0 in
    room-of (S.image c.args.disk.now) (S.image c.walk_chain.new.disk) l c.as_slice.result.now c.in-Ok.field-0
    c.in-Ok-find_room.room h
    (subst (P directory_start) (sym c.as_slice.ensures.value) (subst (λ p. P p c.walk_chain.new.places.items)
    c.directory_start.ensures c.in-Ok.ensures.chain))
    c.in-Ok.ensures.reads.image c.in-Ok-find_room.ensures.bytes c.in-Ok-find_room.ensures.ok
    c.in-Ok-find_room.ensures.before

pub returns-clause-reads : goal.returns-clause-reads
returns-clause-reads g c =
    let S = g.D.Sectors.history in
    let (l, h) = c.requires.sound in
    let P : Place → Type 0 = λ p. IsChain (S.image c.args.disk.now) p c.walk_chain.new.places.items c.in-Ok.field-0 in
    let dir = walked (S.image c.args.disk.now) l c.walk_chain.new.places.items c.in-Ok.field-0 h
    (subst P c.directory_start.ensures c.in-Ok.ensures.chain) in
    let few : length c.walk_chain.new.places.items ≤ 18 = omega (
      arith,
      ap (λ (ps : List Place). length ps) dir,
      few-sectors (S.image c.args.disk.now) l.directory _ h.directory,
    ) in
    let read : length c.as_slice.result.now ≤ 18 =
    omega (arith, few, ap (λ (ps : List Place). length ps) c.as_slice.ensures.value) in
    reads_then S _ _ _ _ _ 36 (omega (arith, few, read)) c.in-Ok.ensures.reads c.in-Ok-find_room.ensures.reads

pub returns-clause-quiet : goal.returns-clause-quiet
returns-clause-quiet g c =
    let S = g.D.Sectors.history in
    no_write_then S _ _ _ (reads_no_write S _ _ _ c.in-Ok.ensures.reads)
    (reads_no_write S _ _ _ c.in-Ok-find_room.ensures.reads)

pub find_room-requires : goal.find_room-requires
find_room-requires g c =
    let chain = c.in-Ok.ensures.chain in
    omega (arith, ap length c.as_slice.ensures.value, ap length chain.places, length_push chain.front chain.last)
