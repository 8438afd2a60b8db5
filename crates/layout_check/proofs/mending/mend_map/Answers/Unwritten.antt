-- The map is right already, or couldn't be read: it isn't written.
use Rattle.std.proofs.Common.{[], ap, subst, sym, ◌∙◌, ◌∷◌}
use Rattle.std.proofs.lemmas.Result.{err_from_is_err_and}
use Rattle.d64_image.proofs.Moments.{reads_no_write}
use Rattle.d64_image.specs.Images.{Image, sector}
use Rattle.d64_image.specs.declared.place.Place.{Place}
use Rattle.disk_layout.proofs.lemmas.kept.Orders.{over_none}
use Rattle.disk_layout.specs.Directory.{map_place}
use Rattle.disk_layout.specs.Layout.{IsLayout}
use Rattle.layout_check.proofs.lemmas.mending.MapMends.{device_told, mends_read}
use Rattle.layout_check.proofs.lemmas.mending.MapMends.{ok-holds}
use Rattle.layout_check.proofs.lemmas.repairing.RightMap.{made-passed}
use Rattle.layout_check.proofs.lemmas.judging.Verdict.{map-right}
use Rattle.layout_check.specs.RepairOrder.{IsRightBut}
use Rattle.layout_check.proofs.mending.mend_map.Goals as goal

pub returns-in_err-read_sector : goal.returns-in_err-read_sector
returns-in_err-read_sector g c l strays is marks =
    let S = g.D.Sectors.history in
    let p = err_from_is_err_and c.from_residual.result c.from_residual.ensures.1 in
    let read = c.in_err-read_sector.ensures in
    record {
      map = rw p.1 tt;
      mending = record {
        layouts = rw p.1 tt;
        mends = mends_read S c.args.disk.now c.read_sector.new.disk 1 1 read.reads;
        failures = rw (p.1, p.2)
            (device_told S (Unit {0}) c.args.disk.now c.read_sector.new.disk c.map_place.result _ read.told
            read.failures read.failed);
      };
      right = λ m also. record {
        over = over_none S (IsRightBut strays m) (map_place ∷ []) c.args.disk.now c.read_sector.new.disk 1 read.reads;
        made = rw p.1 tt;
      };
      spare = λ changed track low high. absurd (changed (ap (λ (i : Image). sector i map_place) read.reads.image));
      quiet = λ has. reads_no_write S c.args.disk.now c.read_sector.new.disk 1 read.reads;
      reads = read.reads.reads;
    }

pub returns-then-is_ok : goal.returns-then-is_ok
returns-then-is_ok g c l strays is marks =
    let S = g.D.Sectors.history in
    let read = c.in_ok-read_sector.ensures in
    let same = read.reads.image in
    let e = read.sector ∙ ap (λ (p : Place). sector (S.image c.args.disk.now) p) c.map_place.ensures
    ∙ ap (λ (i : Image). sector i map_place) (sym same) in
    let P : Image → Type 0 = λ i. IsLayout i l in
    let has = map-right _ c.args.taken.now c.read_sector.new.to l strays (subst P (sym same) is) marks e
    (ok-holds c.check_bits.result _ (sym c.is_ok.ensures.value ∙ c.if-is_ok.true) c.check_bits.ensures.ok) in
    record {
      map = has;
      mending = record {
        layouts = λ m h. let Q : Image → Type 0 = λ i. IsLayout i m in subst Q (sym same) h;
        mends = mends_read S c.args.disk.now c.read_sector.new.disk 1 1 read.reads;
        failures = read.failures;
      };
      right = λ m also. record {
        over = over_none S (IsRightBut strays m) (map_place ∷ []) c.args.disk.now c.read_sector.new.disk 1 read.reads;
        made = made-passed _ _ m strays same has also;
      };
      spare = λ changed track low high. absurd (changed (ap (λ (i : Image). sector i map_place) same));
      quiet = λ h. reads_no_write S c.args.disk.now c.read_sector.new.disk 1 read.reads;
      reads = read.reads.reads;
    }
