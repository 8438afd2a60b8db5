-- There is no first side sector, or one that isn't numbered right, doesn't lead on or can't be read.
use Rattle.std.proofs.Common.{ap, arith, subst, ◌∙◌, ◌<◌, length}
use Rattle.std.proofs.lemmas.Result.{err_from_is_err_and}
use Rattle.d64_image.specs.Images.{Image, Sector, sector}
use Rattle.d64_image.specs.declared.place.Place.{Place}
use Rattle.disk_layout.proofs.lemmas.chains.Names.{named-match}
use Rattle.disk_layout.specs.Layout.{sides_for}
use Rattle.layout_check.proofs.lemmas.judging.Calls.{passes_none, passes_read, passes_then, passes_weaker, side_tells}
use Rattle.layout_check.proofs.lemmas.judging.Calls.{tells_read}
use Rattle.layout_check.proofs.lemmas.judging.Calls.{tells_then}
use Rattle.layout_check.proofs.lemmas.finding.SideWalks.{bad-holds, misjudged-bad, misnumbered, no_first_side}
use Rattle.layout_check.proofs.lemmas.finding.SideWalks.{side-reached, unlinked-bad}
use Rattle.disk_layout.specs.Fault.{nowhere}
use Rattle.disk_layout.specs.Side.{NamesNext}
use Rattle.layout_check.proofs.sides.walk_sides.Goals as goal

pub returns-in_err-read_sector : goal.returns-in_err-read_sector
returns-in_err-read_sector g c =
    let S = g.D.Sectors.history in
    let p = err_from_is_err_and c.from_residual.result c.from_residual.ensures.1 in
    record {
      sides = rw p.1 tt;
      ok = rw p.1 tt;
      err = let old = c.loop-number.invariant in
          let read = c.in_err-read_sector.ensures in
          rw (p.1, p.2) (tells_then S c.args.disk.now c.loop-number.disk c.read_sector.new.disk c.loop-number.number 1 6
          _
          (omega (arith, old.below, c.div_ceil-needed.ensures, c.requires.few)) old.passes
          (tells_read S c.loop-number.disk c.read_sector.new.disk c.loop-number.at _ read.told read.reads
          read.failures read.failed));
    }

pub returns-in_default : goal.returns-in_default
returns-in_default g c =
    let S = g.D.Sectors.history in
    record {
      sides = tt;
      ok = tt;
      err = let d = c.args.disk.now in
          side_tells S d d 6 c.args.slot.now.sector (passes_weaker S d d 0 6 (omega arith) (passes_none S d))
          (no_first_side nowhere _ c.args.slot.now c.args.blocks.now c.requires.entry
          (named-match c.args.slot.now.bytes _ 21 _ c.new.ensures c.in_default.ensures));
    }

pub returns-then-not-is_numbered : goal.returns-then-not-is_numbered
returns-then-not-is_numbered g c =
    let S = g.D.Sectors.history in
    record {
      sides = tt;
      ok = tt;
      err = let old = c.loop-number.invariant in
          let e = c.in_ok-read_sector.ensures.sector
          ∙ ap (λ (i : Image). sector i c.loop-number.at) old.passes.reads.image in
          let passes = passes_then S c.args.disk.now c.loop-number.disk c.read_sector.new.disk c.loop-number.number 1 6
          (omega (arith, old.below, c.div_ceil-needed.ensures, c.requires.few)) old.passes
          (passes_read S c.loop-number.disk c.read_sector.new.disk c.in_ok-read_sector.ensures.reads
          c.in_ok-read_sector.ensures.failures) in
          let below : c.loop-number.number < sides_for (length c.args.blocks.now) =
          omega (arith, old.below, c.div_ceil-needed.ensures) in
          side_tells S c.args.disk.now c.read_sector.new.disk 6 c.loop-number.at passes
          (bad-holds nowhere _ c.args.slot.now c.args.blocks.now c.loop-number.number c.loop-number.at c.requires.entry
          (side-reached _ c.args.slot.now c.args.blocks.now c.loop-number.sides.items c.in-Some.first c.loop-number.at
          c.loop-number.number c.requires.entry (named-match c.args.slot.now.bytes _ 21 _ c.new.ensures
          c.in-Some.ensures) old.leads old.count below)
          (misjudged-bad _ c.args.slot.now c.args.blocks.now c.loop-number.number c.loop-number.at c.read_sector.new.to
          e (misnumbered _ c.args.slot.now c.args.blocks.now c.loop-number.number
          (c.is_numbered.ensures.wrong c.if-not-is_numbered.true))));
    }

pub returns-in_default-next_listed : goal.returns-in_default-next_listed
returns-in_default-next_listed g c =
    let S = g.D.Sectors.history in
    record {
      sides = tt;
      ok = tt;
      err = let old = c.loop-number.invariant in
          let e = c.in_ok-read_sector.ensures.sector
          ∙ ap (λ (i : Image). sector i c.loop-number.at) old.passes.reads.image in
          let passes = passes_then S c.args.disk.now c.loop-number.disk c.read_sector.new.disk c.loop-number.number 1 6
          (omega (arith, old.below, c.div_ceil-needed.ensures, c.requires.few)) old.passes
          (passes_read S c.loop-number.disk c.read_sector.new.disk c.in_ok-read_sector.ensures.reads
          c.in_ok-read_sector.ensures.failures) in
          let below : c.loop-number.number < sides_for (length c.args.blocks.now) =
          omega (arith, old.below, c.div_ceil-needed.ensures) in
          side_tells S c.args.disk.now c.read_sector.new.disk 6 c.loop-number.at passes
          (bad-holds nowhere _ c.args.slot.now c.args.blocks.now c.loop-number.number c.loop-number.at c.requires.entry
          (side-reached _ c.args.slot.now c.args.blocks.now c.loop-number.sides.items c.in-Some.first c.loop-number.at
          c.loop-number.number c.requires.entry (named-match c.args.slot.now.bytes _ 21 _ c.new.ensures
          c.in-Some.ensures) old.leads old.count below)
          (unlinked-bad _ c.args.slot.now c.args.blocks.now c.loop-number.number c.loop-number.at c.read_sector.new.to e
          (omega (arith, old.below, c.if-number-needed.false, c.div_ceil-needed.ensures))
          (subst (λ (b : Sector). (q : Place) → ¬ (NamesNext b c.loop-number.number q)) c.new-in-loop-number.ensures
          c.in_default-next_listed.ensures)));
    }
