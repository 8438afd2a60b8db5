use Rattle.std.proofs.Common.{◌+◌, ◌*◌, ◌∙◌, arith}
use Rattle.image_log.proofs.Filled.{with_more}
use Rattle.image_log.proofs.filling.set_sector.Goals as goal

pub returns : goal.returns
returns c = record {
  more = λ image.
      let x = c.args.block.now in
      let mid = c.set_pair.new.block in
      let y = c.set_bytes.new.block in
      let k = c.args.k in
      let low = c.set_bytes.ensures.before (16 + 2 * k) (omega arith) in
      let high = c.set_bytes.ensures.before (16 + 2 * k + 1) (omega arith) in
      with_more x y c.args.bytes.now c.told-block c.set_bytes.array_long k c.args.index c.requires.room
      (omega (arith, low, high, c.set_pair.ensures.pair)) c.set_bytes.ensures.bytes
      (λ i below. c.set_bytes.ensures.before i (omega arith) ∙ c.set_pair.ensures.same i below)
      (λ i from below. c.set_bytes.ensures.before i below ∙ c.set_pair.ensures.behind i (omega arith)) image;
}
