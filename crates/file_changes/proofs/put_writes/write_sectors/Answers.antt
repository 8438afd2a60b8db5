-- The map, and then the chain.
use Rattle.std.proofs.Common.{arith, length, refl, ◌≡◌, ◌∙◌, ◌+◌, ap}
use Rattle.std.proofs.lemmas.Result.{on_ok_weaker}
use Rattle.d64_image.proofs.Moments.{changes_then, changes_weaker}
use Rattle.d64_image.specs.Images.{put}
use Rattle.disk_layout.specs.Directory.{map_place}
use Rattle.file_changes.proofs.NewChains.{beside-changes, mapped}
use Rattle.rel_records.proofs.lemmas.Told.{not-done, tells-after, tells-failed}
use Rattle.rel_records.proofs.lemmas.creation.NewWrites.{map-first}
use Rattle.file_changes.proofs.put_writes.write_sectors.Goals as goal

pub returns-in_err-write : goal.returns-in_err-write
returns-in_err-write g c =
    let S = g.D.Sectors.history in
    record {
      ok = not-done c.from_residual.result _ c.from_residual.ensures.1 _;
      moments =
          changes_weaker S _ _ 1 (length c.args.places.now + 1) _ _ (omega arith) (λ x h. h)
          (map-first S c.args.disk.now c.args.map.now.bytes c.args.places.now c.write.new.self c.map_place.result
          c.map_place.ensures c.write.ensures.held (omega (arith, c.in_err-write.ensures.uncounted)));
      reads = omega (arith, c.in_err-write.ensures.reads);
      failures = tells-failed S _ _ _ refl c.from_residual.result _ c.from_residual.ensures.1
          c.in_err-write.ensures.failures;
    }

pub returns : goal.returns
returns g c =
    let S = g.D.Sectors.history in
    let a = S.image c.args.disk.now in
    let b = S.image c.write.new.self in
    let map = c.args.map.now.bytes in
    let ps = c.args.places.now in
    let full = (S.whole c.args.disk.now).size in
    let e : b ≡ put a map_place map = c.in_ok-write.ensures.ok ∙ ap (λ p. put a p map) c.map_place.ensures in
    let first = map-first S c.args.disk.now map ps c.write.new.self c.map_place.result c.map_place.ensures
    c.write.ensures.held c.in_ok-write.ensures.counted in
    record {
      ok =
          on_ok_weaker c.write_blocks.result
          (λ done. record {
            map = mapped a b map ps full e c.requires.apart (S.image c.write_blocks.new.disk) done.1;
            chain = done.0;
          })
          c.write_blocks.ensures.ok;
      moments =
          changes_then S c.args.disk.now c.write.new.self c.write_blocks.new.disk 1 (length ps) (length ps + 1) _
          (omega arith) first
          (changes_weaker S _ _ (length ps) (length ps) _ _ (omega arith)
          (λ x h. beside-changes a b map ps full e c.requires.apart x h) c.write_blocks.ensures.moments);
      reads = omega (arith, c.write_blocks.ensures.reads, c.in_ok-write.ensures.reads);
      failures = tells-after S _ _ _ c.in_ok-write.ensures.failures c.write_blocks.result
          c.write_blocks.ensures.failures;
    }
