-- One entry more.
use Rattle.std.proofs.Common.{ap, ◌∙◌}
use Rattle.json_looks.specs.Entries.{entry_data}
use Rattle.json_looks.proofs.Gathered.{one-more}
use Rattle.json_looks.proofs.entries.entry_values.Goals as goal

pub loop-slot-preserved : goal.loop-slot-preserved
loop-slot-preserved c =
    one-more entry_data c.args.slots.now c.loop-slot.slot-index c.slot-item.result c.loop-slot.values.items
    c.push.new.self.items c.in_ok-entry_value.field-0 c.loop-slot-test.true
    (c.in_ok-entry_value.ensures ∙ ap entry_data c.slot-item.is) c.in_ok-push.ensures.items c.loop-slot.invariant
