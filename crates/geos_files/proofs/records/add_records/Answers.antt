-- One record more.
use Rattle.std.proofs.Common.{◌≡◌, ◌+◌, ◌*◌, ℕ, suc, List, arith, subst}
use Rattle.std.specs.Prelude.{slice_index}
use Rattle.d64_image.specs.Images.{sector}
use Rattle.d64_image.specs.Memory.{disk_image}
use Rattle.geos_files.specs.Reached.{AreRecords, IsRecord}
use Rattle.geos_files.proofs.records.add_records.Goals as goal

pub loop-number-preserved : goal.loop-number-preserved
loop-number-preserved c =
    let old = c.loop-number.invariant in
    let img = disk_image c.args.disk.now in
    let k = c.loop-number.number in
    let found = c.add_record-record.result in
    let new = c.add_record-record.new.blocks.items in
    let next : 2 + 2 * k + 1 ≡ 3 + 2 * k = omega arith in
    let step : suc k ≡ k + 1 = omega arith in
    let more : AreRecords img c.args.at (sector img c.args.at) (suc k) c.args.blocks.now.items new
    c.push_pair.new.pairs.items c.or-fault.result c.last_of-last.result =
    record {
      had = c.loop-number.blocks.items;
      old_pairs = c.loop-number.pairs.items;
      old_fault = c.loop-number.fault;
      old_last = c.loop-number.last;
      others = old.records;
      n = found.blocks;
      u = found.last;
      own_fault = found.fault;
      one = subst (λ (i : ℕ). IsRecord img c.args.at (slice_index (sector img c.args.at) (2 + 2 * k))
          (slice_index (sector img c.args.at) i) c.loop-number.blocks.items new found.blocks found.last found.fault) next
          (subst (λ (bs : List ℕ). IsRecord img c.args.at (slice_index bs (2 + 2 * k)) (slice_index bs (2 + 2 * k + 1))
          c.loop-number.blocks.items new found.blocks found.last found.fault) c.sector-bytes.ensures
          c.add_record-record.ensures.record);
      pairs_are = c.push_pair.ensures.items;
      fault_is = c.or-fault.ensures;
      last_is = c.last_of-last.ensures;
    } in
    record {
      records = subst (λ (n : ℕ). AreRecords img c.args.at (sector img c.args.at) n c.args.blocks.now.items new
          c.push_pair.new.pairs.items c.or-fault.result c.last_of-last.result) step more;
      marked = c.add_record-record.ensures.marked;
      pairs = omega (arith, old.pairs, c.push_pair.ensures.room);
    }
