-- The info block and the record block come first.
use Rattle.std.proofs.Common.{◌≡◌, ◌∷◌, ◌++◌, [], Bool, List, ap, subst, sym, ◌∙◌}
use Rattle.d64_image.specs.Images.{sector}
use Rattle.d64_image.specs.Memory.{disk_image}
use Rattle.d64_image.specs.declared.place.Place.{Place}
use Rattle.geos_files.specs.Reached.{AreRecords, IsGeosReachOf}
use Rattle.geos_files.proofs.reaching.reach_geos.Goals as goal

pub returns-then-entry-clause-reach : goal.returns-then-entry-clause-reach
returns-then-entry-clause-reach c =
    let img = disk_image c.args.disk.now in
    let entry = c.args.entry.now in
    let blocks = c.add_records.new.blocks.items in
    let pairs = c.add_records.new.pairs.items in
    let end = c.add_records.result in
    let two : c.add-then-entry.new.blocks.items ≡ entry.info ∷ entry.first ∷ [] =
    c.add-then-entry.ensures.items ∙ ap (λ (l : List Place). l ++ entry.first ∷ [])
    (c.add.ensures.items ∙ ap (λ (l : List Place). l ++ entry.info ∷ []) c.clear.ensures) in
    subst (λ (h : Bool). IsGeosReachOf img entry.info entry.first h blocks pairs end.fault end.last) (sym c.if-entry.true)
    (subst (λ (had : List Place). AreRecords img entry.first (sector img entry.first) 127 had blocks pairs end.fault end.last)
    two c.add_records.ensures.records)
