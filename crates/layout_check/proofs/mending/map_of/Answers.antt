-- The map cleared, and then track by track.
use Rattle.std.proofs.Common.{arith, ◌+◌, ◌∙◌}
use Rattle.layout_check.proofs.lemmas.mending.Makings.{below-all, below-next, below-start, filled}
use Rattle.layout_check.proofs.mending.map_of.Goals as goal

pub loop-below-init : goal.loop-below-init
loop-below-init c = below-start c.args.old.now c.new-map.result.bytes c.args.owners.now c.told-old (c.new-map.ensures
    ∙ filled c.args.old.now c.fill.new.self c.told-old (c.fill.ensures.after (λ y e. e)))

pub free_track-requires : goal.free_track-requires
free_track-requires c = record { none = c.loop-below.invariant.none (c.loop-below.below + 1) (omega arith) (omega arith) }

pub loop-below-preserved : goal.loop-below-preserved
loop-below-preserved c = below-next c.args.old.now c.loop-below.map.bytes c.free_track.new.map.bytes c.args.owners.now
    (c.loop-below.below + 1) c.loop-below.invariant (record {
      right = c.free_track.ensures.right;
      spare = c.free_track.ensures.spare;
      keeps = c.free_track.ensures.keeps;
    })

pub returns : goal.returns
returns c = below-all c.args.old.now c.loop-below.map.bytes c.args.owners.now (c.loop-below.below + 1) (omega (arith, c.loop-below-test.false))
    c.loop-below.invariant
