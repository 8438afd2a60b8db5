-- A byte more.
use Rattle.std.proofs.Common.{ap, arith, map, ◌∙◌}
use Rattle.std.proofs.lemmas.List.{take_all}
use Rattle.damaged_files.proofs.lemmas.reached.Filtered.{map-next}
use Rattle.damaged_files.specs.reached.Nearness.{folded_byte}
use Rattle.damaged_files.proofs.reached.nearness.fold.Goals as goal

pub loop-byte-preserved : goal.loop-byte-preserved
loop-byte-preserved c = record {
  items = map-next folded_byte c.args.name.now c.loop-byte.bytes.items c.push.new.self.items c.loop-byte.byte-index
      0 c.folded_byte.result c.loop-byte-test.true c.folded_byte.ensures
      c.loop-byte.invariant.items c.push.ensures.items;
  few = omega (arith, c.push.ensures.len, c.loop-byte.invariant.few);
}

pub returns : goal.returns
returns c =
    c.loop-byte.invariant.items
    ∙ ap (map folded_byte) (take_all c.loop-byte.byte-index c.args.name.now c.loop-byte-test.false)
