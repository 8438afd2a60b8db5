-- Along the links from the first side sector on.
mod Told
use Rattle.std.proofs.Common.{ap, arith, lit<, ◌∙◌, ◌<◌, length, refl, subst, ◌+◌}
use Rattle.d64_image.specs.Images.{Image, Sector, sector}
use Rattle.disk_layout.proofs.lemmas.chains.Names.{named-match}
use Rattle.layout_check.proofs.lemmas.judging.Calls.{passes_none, passes_read, passes_then}
use Rattle.disk_layout.specs.Side.{NamesNext}
use Rattle.layout_check.proofs.lemmas.finding.SideWalks.{next-led}
use Rattle.layout_check.proofs.lemmas.finding.SideWalks.{some-blocks, walk-done}
use Rattle.layout_check.proofs.sides.walk_sides.Goals as goal
use Rattle.layout_check.proofs.sides.walk_sides.Answers.Told as told

pub loop-number-init : goal.loop-number-init
loop-number-init g c = record {
  passes = passes_none g.D.Sectors.history c.args.disk.now;
  below = omega (arith, c.div_ceil-needed.ensures, some-blocks _ c.args.slot.now c.args.blocks.now c.requires.entry);
  leads = rw c.clear.ensures refl;
  count = rw c.clear.ensures refl;
}

pub push-requires : goal.push-requires
push-requires g c =
    let old = c.loop-number.invariant in
    let h : length c.loop-number.sides.items < 6 = omega (
      arith,
      old.below,
      old.count,
      c.div_ceil-needed.ensures,
      c.requires.few,
    ) in
    (lit< tt, h)

pub loop-number-preserved : goal.loop-number-preserved
loop-number-preserved g c =
    let S = g.D.Sectors.history in
    let old = c.loop-number.invariant in
    let e = c.in_ok-read_sector.ensures.sector ∙ ap (λ (i : Image). sector i c.loop-number.at) old.passes.reads.image in
    record {
      passes = passes_then S c.args.disk.now c.loop-number.disk c.read_sector.new.disk c.loop-number.number 1
          (c.loop-number.number + 1) (omega arith) old.passes (passes_read S c.loop-number.disk c.read_sector.new.disk
          c.in_ok-read_sector.ensures.reads c.in_ok-read_sector.ensures.failures);
      below = omega (arith, old.below, c.if-number-needed.false);
      leads = rw c.push.ensures.items (next-led _ c.in-Some.first c.loop-number.sides.items c.loop-number.at
          c.in-Some-next_listed.next c.loop-number.number c.read_sector.new.to old.count e old.leads
          (subst (λ (b : Sector). NamesNext b c.loop-number.number c.in-Some-next_listed.next) c.new-in-loop-number.ensures
          c.in-Some-next_listed.ensures));
      count = omega (arith, c.push.ensures.len, old.count);
    }

pub returns-then-number-needed : goal.returns-then-number-needed
returns-then-number-needed g c =
    let S = g.D.Sectors.history in
    record {
      sides = let old = c.loop-number.invariant in
          rw c.push.ensures.items (walk-done _ c.args.slot.now c.args.blocks.now c.loop-number.sides.items
          c.in-Some.first c.loop-number.at (named-match c.args.slot.now.bytes _ 21 _ c.new.ensures
          c.in-Some.ensures) old.leads
          (omega (arith, old.count, c.if-number-needed.true, c.div_ceil-needed.ensures)));
      ok = let old = c.loop-number.invariant in
          passes_then S c.args.disk.now c.loop-number.disk c.read_sector.new.disk c.loop-number.number 1 _
          (omega (arith, c.push.ensures.len, old.count)) old.passes
          (passes_read S c.loop-number.disk c.read_sector.new.disk c.in_ok-read_sector.ensures.reads
          c.in_ok-read_sector.ensures.failures);
      err = tt;
    }

pub returns : goal.returns
returns g c = record {
  sides = absurd (omega (arith, c.loop-number.invariant.below, c.loop-number-test.false));
  ok = absurd (omega (arith, c.loop-number.invariant.below, c.loop-number-test.false));
  err = tt;
}

pub returns-in_err-read_sector : goal.returns-in_err-read_sector
returns-in_err-read_sector = told.returns-in_err-read_sector

pub returns-in_default : goal.returns-in_default
returns-in_default = told.returns-in_default

pub returns-then-not-is_numbered : goal.returns-then-not-is_numbered
returns-then-not-is_numbered = told.returns-then-not-is_numbered

pub returns-in_default-next_listed : goal.returns-in_default-next_listed
returns-in_default-next_listed = told.returns-in_default-next_listed

pub div_ceil-needed-requires : goal.div_ceil-needed-requires
div_ceil-needed-requires g c = lit< tt

pub read_sector-requires : goal.read_sector-requires
read_sector-requires g c κs = λ h. h

pub overflow_add-number : goal.overflow_add-number
overflow_add-number g c = omega (
  arith,
  c.loop-number.invariant.below,
  c.div_ceil-needed.ensures,
  c.requires.few,
)

pub loop-number-smaller : goal.loop-number-smaller
loop-number-smaller g c = omega (arith, c.loop-number.invariant.below)
