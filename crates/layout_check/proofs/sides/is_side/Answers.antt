-- The pointers are a part of the blocks.
use Rattle.std.proofs.Common.{arith, inr}
use Rattle.layout_check.proofs.lemmas.finding.Pointers.{end-far, pointers-right, pointers-wrong}
use Rattle.layout_check.proofs.lemmas.finding.SideWalks.{misnumbered}
use Rattle.layout_check.proofs.sides.is_side.Goals as goal

pub returns-then-not-is_numbered-clause-wrong : goal.returns-then-not-is_numbered-clause-wrong
returns-then-not-is_numbered-clause-wrong c f = misnumbered c.args.sector.now c.args.slot.now c.args.blocks.now
    c.args.number (c.is_numbered.ensures.wrong c.if-not-is_numbered.true)

pub returns-clause-right : goal.returns-clause-right
returns-clause-right c t =
    let h = c.is_numbered.ensures.right c.if-not-is_numbered.false in
    record {
      number = h.0;
      length_byte = h.1;
      pointers = pointers-right c.args.sector.now c.args.blocks.now c.args.number c.min-end.result
          (end-far _ _ c.min-end.result c.min-end.ensures) (c.names_each.ensures.right t);
    }

pub returns-clause-wrong : goal.returns-clause-wrong
returns-clause-wrong c f =
    inr (inr (pointers-wrong c.args.sector.now c.args.blocks.now c.args.number c.min-end.result
    (omega (arith, c.min-end.ensures)) (c.names_each.ensures.wrong f)))
