-- The map is right already, or it is written.
mod Unwritten
use Rattle.std.proofs.Common.{[], ap, arith, subst, sym, ◌∙◌, ◌∷◌}
use Rattle.std.proofs.lemmas.Result.{on_ok_weaker}
use Rattle.d64_image.specs.Images.{Image, sector}
use Rattle.d64_image.specs.declared.place.Place.{Place}
use Rattle.disk_layout.proofs.lemmas.kept.OtherWrites.{write_changes}
use Rattle.disk_layout.specs.Directory.{map_place}
use Rattle.disk_layout.specs.InOrder.{AreMade}
use Rattle.layout_check.proofs.lemmas.mending.MapMends.{device_later, err-holds, layouts-put, map-put}
use Rattle.layout_check.proofs.lemmas.mending.MapMends.{mends_write, right-map, write_device, written}
use Rattle.layout_check.proofs.lemmas.mending.Mendings.{mended-map}
use Rattle.layout_check.proofs.lemmas.repairing.RightMap.{changed_written, made-written, over_read_write}
use Rattle.disk_layout.proofs.lemmas.layouts.Layouts.{IsLayout-one}
use Rattle.disk_layout.specs.Layout.{IsLayout, Layout}
use Rattle.layout_check.specs.Exact.{HasMapBut}
use Rattle.layout_check.specs.RepairOrder.{IsRightBut}
use Rattle.layout_check.specs.Keeping.{MarksTaken}
use Rattle.layout_check.specs.Made.{HasNoSpare}
use Rattle.layout_check.specs.Mended.{KeepsLayouts}
use Rattle.layout_check.proofs.mending.mend_map.Goals as goal
use Rattle.layout_check.proofs.mending.mend_map.Answers.Unwritten as unwritten

pub write_other-requires : goal.write_other-requires
write_other-requires g c =
    c.in_ok-read_sector.ensures.sector
    ∙ ap (λ (i : Image). sector i c.map_place.result) (sym c.in_ok-read_sector.ensures.reads.image)
    ∙ ap (λ (p : Place). sector (g.D.Sectors.history.image c.read_sector.new.disk) p) (c.map_place.ensures
    ∙ sym c.map_place-2.ensures)

pub returns : goal.returns
returns g c l strays is marks =
    let S = g.D.Sectors.history in
    let same = c.in_ok-read_sector.ensures.reads.image in
    let read = c.in_ok-read_sector.ensures.sector
    ∙ ap (λ (p : Place). sector (S.image c.args.disk.now) p) c.map_place.ensures in
    let wrong = err-holds c.check_bits.result _ (sym c.is_ok.ensures.value ∙ c.if-is_ok.false)
    c.check_bits.ensures.err in
    let now = (let P : Image → Type 0 = λ i. IsLayout i l in subst P (sym same) is) in
    record {
      map = on_ok_weaker c.write_other.result (λ h. written (HasMapBut strays) _ (S.image c.read_sector.new.disk)
          c.map_place-2.result c.map_of-wanted.result h c.map_place-2.ensures (map-put (S.image c.read_sector.new.disk)
          c.args.taken.now c.map_of-wanted.result l strays (S.whole c.read_sector.new.disk).size now marks
          c.map_of-wanted.ensures.right)) c.write_other.ensures.write.ok;
      mending = record {
        layouts = on_ok_weaker c.write_other.result (λ h. written (KeepsLayouts (S.image c.args.disk.now)) _
            (S.image c.read_sector.new.disk) c.map_place-2.result c.map_of-wanted.result h c.map_place-2.ensures
            (layouts-put (S.image c.args.disk.now) (S.image c.read_sector.new.disk) c.map_of-wanted.result
            same)) c.write_other.ensures.write.ok;
        mends = let read_now = read ∙ ap (λ (i : Image). sector i map_place) (sym same) in
            mends_write S c.args.disk.now c.read_sector.new.disk c.write_other.new.disk 1 map_place
            c.map_of-wanted.result c.in_ok-read_sector.ensures.reads
            (rw c.map_place-2.ensures at (write_changes S c.read_sector.new.disk c.write_other.new.disk
            c.map_place-2.result c.map_of-wanted.result _ c.write_other.result c.write_other.ensures.write))
            (λ i m h. mended-map i m (S.image c.read_sector.new.disk) c.map_of-wanted.result
            (S.whole c.read_sector.new.disk).size (rw (← read_now) c.map_of-wanted.ensures.header) h);
        failures = device_later S (Unit {0}) c.args.disk.now c.read_sector.new.disk c.write_other.new.disk
            c.write_other.result c.in_ok-read_sector.ensures.failures (write_device S (Unit {0}) c.read_sector.new.disk
            c.write_other.new.disk c.map_place-2.result c.map_of-wanted.result c.write_other.result
            c.write_other.ensures.write);
      };
      right = λ m also.
          let a = c.args.disk.now in
          let b = c.read_sector.new.disk in
          let marks_m = (let P : Layout → Type 0 = λ x. MarksTaken c.args.taken.now x strays in
          subst P (IsLayout-one (S.image a) l m is also) marks) in
          let made = made-written (S.image a) (S.image b) c.args.taken.now c.read_sector.new.to c.map_of-wanted.result
          m strays (S.whole a).size same marks_m read wrong c.map_of-wanted.ensures.right also in
          record {
            over = let write = (rw c.map_place-2.ensures at c.write_other.ensures) in
                over_read_write S a b c.write_other.new.disk 1 c.in_ok-read_sector.ensures.reads map_place
                c.map_of-wanted.result write.write.held (IsRightBut strays m) made write.once;
            made = on_ok_weaker c.write_other.result (λ h. written
                (AreMade (IsRightBut strays m) (map_place ∷ []) (S.image a)) _ (S.image b) c.map_place-2.result
                c.map_of-wanted.result h c.map_place-2.ensures made) c.write_other.ensures.write.ok;
          };
      spare = λ changed track low high.
          let held = (rw c.map_place-2.ensures at c.write_other.ensures.write.held) in
          changed_written S c.args.disk.now c.read_sector.new.disk c.write_other.new.disk 1
          c.in_ok-read_sector.ensures.reads map_place c.map_of-wanted.result held (λ x. HasNoSpare x track)
          (c.map_of-wanted.ensures.spare track low high) changed;
      quiet = λ has. absurd (right-map _ c.args.taken.now c.read_sector.new.to wrong.0 l strays is marks has read
          wrong.1);
      reads = omega (arith, c.in_ok-read_sector.ensures.reads.reads, c.write_other.ensures.write.reads);
    }

pub returns-in_err-read_sector : goal.returns-in_err-read_sector
returns-in_err-read_sector = unwritten.returns-in_err-read_sector

pub returns-then-is_ok : goal.returns-then-is_ok
returns-then-is_ok = unwritten.returns-then-is_ok
