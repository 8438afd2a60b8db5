-- The parts, and then the side sectors.
use Rattle.std.proofs.Common.{List, Ok, ap, arith, length, refl, subst, sym}
use Rattle.std.specs.Prelude.{Option}
use Rattle.std.proofs.lemmas.Result.{err_from_is_err_and}
use Rattle.d64_image.specs.Images.{Image}
use Rattle.d64_image.specs.declared.place.Place.{Place}
use Rattle.disk_layout.specs.Layout.{IsLayout}
use Rattle.layout_check.proofs.lemmas.finding.Entries.{rel-closed}
use Rattle.layout_check.proofs.lemmas.mending.EntryMends.{entry-filed}
use Rattle.layout_check.proofs.lemmas.mending.MapMends.{device_later}
use Rattle.layout_check.proofs.lemmas.mending.SideMends.{parts-at, parts-here, sound-device}
use Rattle.layout_check.proofs.lemmas.repairing.MakesRights.{makes_kept, makes_none, makes_read}
use Rattle.layout_check.proofs.lemmas.repairing.RepairReads.{few_all, found-owned}
use Rattle.layout_check.proofs.lemmas.repairing.RightSides.{file-sides_once, parts-right, sides-found}
use Rattle.layout_check.specs.Exact.{ToldOfSides}
use Rattle.layout_check.specs.Mending.{MakesRight}
use Rattle.layout_check.proofs.mending.mend_relative.Goals as goal

pub find_parts-requires-clause-closed : goal.find_parts-requires-clause-closed
find_parts-requires-clause-closed g c = rel-closed _ c.args.slot.now (entry-filed _ c.args.slot.now c.requires.filed)
    c.requires.rel

pub mend_sides-requires : goal.mend_sides-requires
mend_sides-requires g c =
    let found = c.in_ok-find_parts.ensures in
    record {
      parts = parts-at _ _ c.args.slot.now c.find_parts.new.parts.blocks.items c.find_parts.new.parts.sides.items
          c.as_slice.result.now c.as_slice-in-Some.result.now found.ok.reads.image c.as_slice.ensures.value
          c.as_slice-in-Some.ensures.value (parts-here _ c.args.slot.now c.find_parts.new.parts.blocks.items
          c.find_parts.new.parts.sides.items c.requires.filed c.requires.rel found.parts);
      few = c.as_slice-in-Some.ensures.fits;
    }

pub returns-in_err-find_parts : goal.returns-in_err-find_parts
returns-in_err-find_parts g c =
    let S = g.D.Sectors.history in
    let told = c.in_err-find_parts.ensures.err in
    let p = err_from_is_err_and c.from_residual.result c.from_residual.ensures.1 in
    record {
      right = λ l f is own slot. rw p.1 (makes_none S l f.sides c.args.disk.now c.find_parts.new.disk 732 _ told.reads);
      failures = rw (p.1, p.2) (sound-device S (Unit {0}) c.args.disk.now c.find_parts.new.disk 732 _
          (c.requires.filed.layout, c.requires.filed.sound) told);
      reads = λ l f is own slot. record { ok = rw p.1 tt; any = omega (arith, told.reads.reads) };
    }

pub returns-in-None : goal.returns-in-None
returns-in-None g c =
    let S = g.D.Sectors.history in
    let a = c.args.disk.now in
    let s = c.args.slot.now in
    let found = c.in_ok-find_parts.ensures in
    let blocks = c.find_parts.new.parts.blocks.items in
    let sides = c.find_parts.new.parts.sides.items in
    let P : Option Place → Type 0 = ToldOfSides (S.image a) s blocks sides in
    let parts = parts-here (S.image a) s blocks sides c.requires.filed c.requires.rel found.parts in
    record {
      right = λ l f is own slot. let Q : List Place
          → Type 0 = λ xs. MakesRight {T = Unit {0}} S a c.find_parts.new.disk l xs (Ok tt) in
          subst Q (sides-found (S.image a) l f s blocks sides sides is own slot c.requires.rel found.parts refl)
          (makes_kept S l sides a c.find_parts.new.disk _ found.ok.reads
          (parts-right (S.image a) l is s blocks sides parts (subst P c.in-None.is found.exact)));
      failures = found.ok.failures;
      reads = λ l f is own slot. few_all S a c.find_parts.new.disk _ (Ok tt) (omega (
        arith,
        found.ok.reads.reads,
        found-owned _ l f s _ _ is own slot c.requires.rel found.parts,
      ));
    }

pub returns-in-Some : goal.returns-in-Some
returns-in-Some g c =
    let S = g.D.Sectors.history in
    let a = c.args.disk.now in
    let s = c.args.slot.now in
    let found = c.in_ok-find_parts.ensures in
    let done = c.mend_sides.ensures in
    record {
      right = λ l f is own slot.
          let P : List Place → Type 0 = λ xs. MakesRight {T = Unit {0}} S c.find_parts.new.disk c.mend_sides.new.disk l xs
          c.mend_sides.result in
          let Q : Image → Type 0 = λ i. IsLayout i l in
          makes_read S l f.sides a c.find_parts.new.disk c.mend_sides.new.disk _ c.mend_sides.result
          (file-sides_once (S.image a) l is f own) found.ok.reads
          (subst P (sides-found (S.image a) l f s c.find_parts.new.parts.blocks.items
          c.find_parts.new.parts.sides.items c.as_slice-in-Some.result.now is own slot c.requires.rel found.parts
          c.as_slice-in-Some.ensures.value) (done.right l (subst Q (sym found.ok.reads.image) is)));
      failures = device_later S (Unit {0}) a c.find_parts.new.disk c.mend_sides.new.disk c.mend_sides.result
          found.ok.failures done.failures;
      reads = λ l f is own slot. few_all S a c.mend_sides.new.disk _ c.mend_sides.result (omega (
        arith,
        found.ok.reads.reads,
        done.reads,
        ap length c.as_slice-in-Some.ensures.value,
        found-owned _ l f s _ _ is own slot c.requires.rel found.parts,
      ));
    }

pub find_parts-requires-clause-rel : goal.find_parts-requires-clause-rel
find_parts-requires-clause-rel g c = c.requires.rel
