-- A side sector isn't sound, or can't be read.
use Rattle.std.proofs.Common.{ap, arith, ◌∙◌}
use Rattle.std.proofs.lemmas.Result.{err_from_is_err_and}
use Rattle.d64_image.specs.Images.{Image, sector}
use Rattle.layout_check.proofs.lemmas.judging.Calls.{passes_read, passes_then, side_tells, tells_read, tells_then}
use Rattle.layout_check.proofs.lemmas.judging.Calls.{tells_weaker}
use Rattle.layout_check.proofs.lemmas.finding.SideWalks.{few-sides, side-there, unsound-holds}
use Rattle.disk_layout.specs.Fault.{nowhere}
use Rattle.layout_check.proofs.sides.survey_sides.Goals as goal

pub returns-in_err-walk_sides : goal.returns-in_err-walk_sides
returns-in_err-walk_sides g c =
    let p = err_from_is_err_and c.from_residual.result c.from_residual.ensures.1 in
    record {
      sides = rw p.1 tt;
      lists = rw p.1 tt;
      exact = rw p.1 tt;
      ok = rw p.1 tt;
      err = rw (p.1, p.2) (tells_weaker g.D.Sectors.history c.args.disk.now c.walk_sides.new.disk 6 12 _ (omega arith)
          c.in_err-walk_sides.ensures.err);
    }

pub returns-in_err-read_sector : goal.returns-in_err-read_sector
returns-in_err-read_sector g c =
    let S = g.D.Sectors.history in
    let p = err_from_is_err_and c.from_residual-in_err-read_sector.result
    c.from_residual-in_err-read_sector.ensures.1 in
    record {
      sides = rw p.1 tt;
      lists = rw p.1 tt;
      exact = rw p.1 tt;
      ok = rw p.1 tt;
      err = let old = c.loop-number.invariant in
          let read = c.in_err-read_sector.ensures in
          rw (p.1, p.2) (tells_then S c.args.disk.now c.loop-number.disk c.read_sector.new.disk _ 1 12 _
          (few-sides _ c.args.slot.now c.args.blocks.now c.walk_sides.new.sides.items c.as_slice-sides.result.now
          c.loop-number.number c.in_ok-walk_sides.ensures.sides c.requires.few c.as_slice-sides.ensures.value
          c.loop-number-test.true)
          old.passes (tells_read S c.loop-number.disk c.read_sector.new.disk c.index-sides-number.result _ read.told
          read.reads read.failures read.failed));
    }

pub returns-then-not-is_sound_side : goal.returns-then-not-is_sound_side
returns-then-not-is_sound_side g c =
    let S = g.D.Sectors.history in
    record {
      sides = tt;
      lists = tt;
      exact = tt;
      ok = tt;
      err = let old = c.loop-number.invariant in
          let sides = c.walk_sides.new.sides.items in
          let items = c.as_slice-sides.result.now in
          let few = few-sides _ c.args.slot.now c.args.blocks.now sides items c.loop-number.number
          c.in_ok-walk_sides.ensures.sides c.requires.few c.as_slice-sides.ensures.value c.loop-number-test.true in
          let passes = passes_then S c.args.disk.now c.loop-number.disk c.read_sector.new.disk _ 1 12 few old.passes
          (passes_read S c.loop-number.disk c.read_sector.new.disk c.in_ok-read_sector.ensures.reads
          c.in_ok-read_sector.ensures.failures) in
          let e = c.in_ok-read_sector.ensures.sector ∙ ap (λ (i : Image). sector i c.index-sides-number.result)
          old.passes.reads.image in
          side_tells S c.args.disk.now c.read_sector.new.disk 12 c.index-sides-number.result passes
          (unsound-holds nowhere _ c.args.slot.now c.args.blocks.now sides c.loop-number.number
          c.index-sides-number.result c.read_sector.new.to c.requires.entry c.in_ok-walk_sides.ensures.sides
          (side-there sides items c.loop-number.number c.index-sides-number.result c.as_slice-sides.ensures.value
          c.loop-number-test.true c.index-sides-number.is)
          e (rw (← c.as_slice-sides.ensures.value) (c.is_sound_side.ensures.wrong c.if-not-is_sound_side.true)));
    }
