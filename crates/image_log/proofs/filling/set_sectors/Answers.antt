-- A touched sector is one more of the block, and one more that is brought.
use Rattle.std.proofs.Common.{◌∙◌, ℕ, List, [], ap, arith, slice_index_or, slice_set, sym}
use Rattle.d64_image.specs.Images.{Image}
use Rattle.image_log.specs.Blocks.{brought, with_sectors}
use Rattle.image_log.proofs.Filled.{brought_more, brought_same, with_none}
use Rattle.image_log.proofs.filling.set_sectors.Goals as goal
use Rattle.image_log.proofs.filling.set_sectors.Goals.{then-touched-i+else-n-eq-PER, else-touched-i}

pub loop-i-init : goal.loop-i-init
loop-i-init c = record {
  few = omega arith;
  taken = omega arith;
  brought = λ image. with_none c.args.block.now (brought c.args.touched.now c.args.now.now c.args.from image);
}

pub loop-i-preserved : goal.loop-i-preserved
loop-i-preserved c =
    let i = c.loop-i.i in
    let inv = c.loop-i.invariant in
    let from = λ (image : Image). brought c.args.touched.now c.args.now.now c.args.from image in
    elim c.if-touched-i.branch [
      | then-touched-i+else-n-eq-PER w ↦ record {
        few = omega (arith, w.n-is, inv.few, w.if-n-eq-PER.false);
        taken = omega (arith, w.n-is, inv.taken);
        brought = λ image.
            ap (λ (b : List ℕ). with_sectors b c.if-touched-i.n (from image)) w.block-is
            ∙ ap (λ (n : ℕ). with_sectors w.set_sector.new.block n (from image)) w.n-is
            ∙ w.set_sector.ensures.more (from image)
            ∙ ap (λ (s : Image). slice_set s i (slice_index_or c.args.now.now i [])) (inv.brought image)
            ∙ sym (brought_more c.args.touched.now c.args.now.now i image w.if-touched-i.true);
      }
      | else-touched-i w ↦ record {
        few = omega (arith, w.n-is, inv.few);
        taken = omega (arith, w.n-is, inv.taken);
        brought = λ image.
            ap (λ (b : List ℕ). with_sectors b c.if-touched-i.n (from image)) w.block-is
            ∙ ap (λ (n : ℕ). with_sectors c.loop-i.block n (from image)) w.n-is
            ∙ inv.brought image
            ∙ sym (brought_same c.args.touched.now c.args.now.now i image w.if-touched-i.false);
      }
    ]
