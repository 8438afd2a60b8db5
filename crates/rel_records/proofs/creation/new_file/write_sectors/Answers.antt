-- The map, the data block, the side sector.
use Rattle.std.proofs.Common.{arith, ◌∷◌, [], List, refl, ◌∙◌}
use Rattle.std.proofs.lemmas.Result.{on_ok_weaker}
use Rattle.d64_image.proofs.Moments.{changes_weaker}
use Rattle.d64_image.specs.declared.place.Place.{Place}
use Rattle.disk_layout.proofs.lemmas.lists.Once.{Contains-here, Contains-there}
use Rattle.rel_records.proofs.creation.new_file.write_sectors.Goals as goal
use Rattle.rel_records.proofs.lemmas.Told.{not-done, tells-after, tells-failed}
use Rattle.rel_records.proofs.lemmas.creation.NewWrites.{map-first, new-sectors, one-more}
use Rattle.rel_records.proofs.lemmas.steps.Sided.{counted_once}

pub returns-in_err-write : goal.returns-in_err-write
returns-in_err-write g c =
    let S = g.D.Sectors.history in
    let ps : List Place = c.args.block ∷ c.args.side ∷ [] in
    record {
      ok = not-done c.from_residual.result _ c.from_residual.ensures.1 _;
      moments =
          changes_weaker S _ _ 1 3 _ _ (omega arith) (λ x h. h)
          (map-first S c.args.disk.now c.args.map.now.bytes ps c.write.new.self c.map_place.result c.map_place.ensures
          c.write.ensures.held (omega (arith, c.in_err-write.ensures.uncounted)));
      reads = omega (arith, c.in_err-write.ensures.reads);
      failures = tells-failed g.D.Sectors.history _ _ _ refl c.from_residual.result _ c.from_residual.ensures.1
          c.in_err-write.ensures.failures;
    }

pub returns-in_err-write-2 : goal.returns-in_err-write-2
returns-in_err-write-2 g c =
    let S = g.D.Sectors.history in
    let ps : List Place = c.args.block ∷ c.args.side ∷ [] in
    let first = map-first S c.args.disk.now c.args.map.now.bytes ps c.write.new.self c.map_place.result
    c.map_place.ensures c.write.ensures.held c.in_ok-write.ensures.counted in
    record {
      ok = not-done c.from_residual-in_err-write-2.result _ c.from_residual-in_err-write-2.ensures.1 _;
      moments =
          changes_weaker S _ _ 2 3 _ _ (omega arith) (λ x h. h)
          (one-more S c.args.disk.now c.args.map.now.bytes ps c.write.new.self c.write-2.new.self 1 c.args.block
          c.fresh_block.result (Contains-here c.args.block (c.args.side ∷ [])) c.requires.apart.block first
          c.write-2.ensures.held (omega (arith, c.in_err-write-2.ensures.uncounted)));
      reads = omega (arith, c.in_err-write-2.ensures.reads, c.in_ok-write.ensures.reads);
      failures = tells-failed g.D.Sectors.history _ _ _ c.in_ok-write.ensures.failures
          c.from_residual-in_err-write-2.result _ c.from_residual-in_err-write-2.ensures.1
          c.in_err-write-2.ensures.failures;
    }

pub returns : goal.returns
returns g c =
    let S = g.D.Sectors.history in
    let ps : List Place = c.args.block ∷ c.args.side ∷ [] in
    let first = map-first S c.args.disk.now c.args.map.now.bytes ps c.write.new.self c.map_place.result
    c.map_place.ensures c.write.ensures.held c.in_ok-write.ensures.counted in
    let second = one-more S c.args.disk.now c.args.map.now.bytes ps c.write.new.self c.write-2.new.self 1 c.args.block
    c.fresh_block.result (Contains-here c.args.block (c.args.side ∷ [])) c.requires.apart.block first
    c.write-2.ensures.held c.in_ok-write-2.ensures.counted in
    record {
      ok =
          on_ok_weaker c.write-3.result
          (new-sectors (S.image c.args.disk.now) (S.image c.write.new.self) (S.image c.write-2.new.self)
          (S.image c.write-3.new.self) c.args.map.now.bytes c.fresh_block.result c.side_bytes.result
          c.map_place.result c.args.block c.args.side c.args.size
          (S.whole c.args.disk.now).size (S.whole c.write.new.self).size (S.whole c.write-2.new.self).size
          c.map_place.ensures c.requires.apart.block c.requires.apart.side c.requires.apart.apart
          c.in_ok-write.ensures.ok c.in_ok-write-2.ensures.ok c.fresh_block.ensures c.side_bytes.ensures)
          c.write-3.ensures.ok;
      moments = one-more S c.args.disk.now c.args.map.now.bytes ps c.write-2.new.self c.write-3.new.self 2 c.args.side
          c.side_bytes.result
          (Contains-there c.args.side c.args.block (c.args.side ∷ []) (Contains-here c.args.side []))
          c.requires.apart.side second c.write-3.ensures.held
          (counted_once S _ _ c.write-3.result c.write-3.ensures.counted c.write-3.ensures.uncounted);
      reads = omega (arith, c.write-3.ensures.reads, c.in_ok-write-2.ensures.reads, c.in_ok-write.ensures.reads);
      failures = tells-after g.D.Sectors.history _ _ _
          (c.in_ok-write-2.ensures.failures ∙ c.in_ok-write.ensures.failures) c.write-3.result
          c.write-3.ensures.failures;
    }
