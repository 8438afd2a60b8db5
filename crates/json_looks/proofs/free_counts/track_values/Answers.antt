-- One track more.
use Rattle.json_looks.specs.FreeCounts.{track_data}
use Rattle.json_looks.proofs.Gathered.{next-one, none-yet}
use Rattle.json_looks.proofs.free_counts.track_values.Goals as goal

pub loop-below-init : goal.loop-below-init
loop-below-init c = none-yet _ _ c.new-values.ensures.items

pub loop-below-preserved : goal.loop-below-preserved
loop-below-preserved c =
    next-one (track_data c.args.map.now) c.loop-below.below c.loop-below.values.items c.push.new.self.items
    c.in_ok-track_value.field-0 c.in_ok-track_value.ensures c.in_ok-push.ensures.items c.loop-below.invariant
