-- The walk along the links, and then each side sector's bytes.
mod Told
use Rattle.std.proofs.Common.{ap, arith, refl, sym, ◌∙◌, ◌≡◌, List, length, subst}
use borrow.Author.Count.{below_more}
use Rattle.std.proofs.lemmas.Option.{slice_get_within}
use Rattle.d64_image.specs.Images.{Image, sector}
use Rattle.d64_image.specs.declared.place.Place.{Place}
use Rattle.disk_layout.proofs.lemmas.kept.OtherWrites.{other-bytes}
use Rattle.layout_check.proofs.lemmas.judging.Calls.{passes_read, passes_then, passes_weaker}
use Rattle.layout_check.proofs.lemmas.judging.Inexact.{exact-here, same-bytes}
use Rattle.layout_check.proofs.lemmas.judging.Judged.{exact-sound, judged-all, judged-exact, judged-none, judged-other}
use Rattle.layout_check.proofs.lemmas.finding.SideWalks.{all-sound, sound-here}
use Rattle.disk_layout.specs.Layout.{record_length}
use Rattle.disk_layout.specs.Side.{side_sector}
use Rattle.disk_layout.proofs.lemmas.lists.Lists.{read-there}
use Rattle.layout_check.specs.Exact.{ToldOfSides}
use Rattle.layout_check.proofs.sides.survey_sides.Goals as goal
use Rattle.layout_check.proofs.sides.survey_sides.Goals.{then-ne+else-not-is_sound_side, else-ne}
use Rattle.layout_check.proofs.sides.survey_sides.Answers.Told as told

pub loop-number-init : goal.loop-number-init
loop-number-init g c = record {
  passes = passes_weaker g.D.Sectors.history c.args.disk.now c.walk_sides.new.disk _ _
      (omega (arith, ap length c.as_slice-sides.ensures.value)) c.in_ok-walk_sides.ensures.ok;
  sound = λ j h. absurd (omega arith);
  judged = judged-none _ c.args.slot.now c.args.blocks.now c.as_slice-sides.result.now;
}

pub is_sound_side-requires : goal.is_sound_side-requires
is_sound_side-requires g c = record {
  number = omega (
    arith,
    c.loop-number-test.true,
    ap length c.as_slice-sides.ensures.value,
    c.in_ok-walk_sides.ensures.sides.count,
  );
  few = c.as_slice-sides.ensures.fits;
}

pub loop-number-preserved : goal.loop-number-preserved
loop-number-preserved g c =
    let S = g.D.Sectors.history in
    let old = c.loop-number.invariant in
    let items = c.as_slice-sides.result.now in
    let n = c.loop-number.number in
    let e = c.in_ok-read_sector.ensures.sector ∙ ap (λ (i : Image). sector i c.index-sides-number.result)
    old.passes.reads.image in
    let there = read-there items n c.index-sides-number.result c.loop-number-test.true c.index-sides-number.is in
    let passes = passes_then S c.args.disk.now c.loop-number.disk c.read_sector.new.disk _ 1 _ (omega arith) old.passes
    (passes_read S c.loop-number.disk c.read_sector.new.disk c.in_ok-read_sector.ensures.reads
    c.in_ok-read_sector.ensures.failures) in
    let length_byte : c.record_length-record_length.result ≡ record_length c.args.slot.now =
    rw (c.record_length-record_length.ensures, c.new.ensures) refl in
    let wanted : c.side_bytes.result ≡ side_sector n c.args.blocks.now items (record_length c.args.slot.now) =
    rw (← length_byte) c.side_bytes.ensures in
    elim c.if-ne.branch [
      | then-ne+else-not-is_sound_side w ↦ record {
        passes = passes;
        sound = below_more _ _ old.sound (sound-here _ c.args.slot.now c.args.blocks.now items n
            c.index-sides-number.result c.read_sector.new.to c.loop-number-test.true c.index-sides-number.is e
            (w.is_sound_side.ensures.right w.if-not-is_sound_side.false));
        judged = rw (w.inexact-is, w.or-inexact.ensures) (judged-other _ c.args.slot.now c.args.blocks.now items n
            c.loop-number.inexact c.index-sides-number.result old.judged there
            (λ same. other-bytes c.read_sector.new.to c.side_bytes.result c.ne.result c.ne.ensures w.if-ne.true (e
            ∙ same ∙ sym wanted)));
      }
      | else-ne w ↦
          let exact = exact-here _ c.args.slot.now c.args.blocks.now items n c.index-sides-number.result
          c.loop-number-test.true c.index-sides-number.is (sym e
          ∙ same-bytes c.read_sector.new.to c.side_bytes.result c.ne.result c.ne.ensures w.if-ne.false ∙ wanted) in
          record {
            passes = passes;
            sound = below_more _ _ old.sound (λ q at. exact-sound _ c.args.slot.now c.args.blocks.now items n q
                c.as_slice-sides.ensures.fits (exact q at));
            judged = rw w.inexact-is (judged-exact _ c.args.slot.now c.args.blocks.now items n c.loop-number.inexact
                old.judged exact);
          }
    ]

pub returns : goal.returns
returns g c = record {
  -- after the last
  sides = (all-sound _ c.args.slot.now c.args.blocks.now c.walk_sides.new.sides.items c.as_slice-sides.result.now
      c.as_slice-sides.ensures.value c.in_ok-walk_sides.ensures.sides
      (λ j p at. c.loop-number.invariant.sound j (omega (
        arith,
        c.loop-number-test.false,
        slice_get_within c.as_slice-sides.result.now j p at,
      )) p at)).0;
  lists = (all-sound _ c.args.slot.now c.args.blocks.now c.walk_sides.new.sides.items c.as_slice-sides.result.now
      c.as_slice-sides.ensures.value c.in_ok-walk_sides.ensures.sides
      (λ j p at. c.loop-number.invariant.sound j (omega (
        arith,
        c.loop-number-test.false,
        slice_get_within c.as_slice-sides.result.now j p at,
      )) p at)).1;
  exact = let P : List Place → Type 0 = λ xs. ToldOfSides (g.D.Sectors.history.image c.args.disk.now) c.args.slot.now
      c.args.blocks.now xs c.loop-number.inexact in
      subst P c.as_slice-sides.ensures.value (judged-all _ c.args.slot.now c.args.blocks.now c.as_slice-sides.result.now
      c.loop-number.number c.loop-number.inexact (omega (arith, c.loop-number-test.false))
      c.loop-number.invariant.judged);
  ok = passes_weaker g.D.Sectors.history c.args.disk.now c.loop-number.disk _ _
      (omega (arith, ap length c.as_slice-sides.ensures.value)) c.loop-number.invariant.passes;
  err = tt;
}

pub returns-in_err-walk_sides : goal.returns-in_err-walk_sides
returns-in_err-walk_sides = told.returns-in_err-walk_sides

pub returns-in_err-read_sector : goal.returns-in_err-read_sector
returns-in_err-read_sector = told.returns-in_err-read_sector

pub returns-then-not-is_sound_side : goal.returns-then-not-is_sound_side
returns-then-not-is_sound_side = told.returns-then-not-is_sound_side

pub walk_sides-requires : goal.walk_sides-requires
walk_sides-requires g c = record { entry = c.requires.entry; few = c.requires.few }

pub read_sector-requires : goal.read_sector-requires
read_sector-requires g c κs = λ h. h
