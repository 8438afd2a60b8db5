-- An entry more, which is near or isn't.
use Rattle.std.proofs.Common.{ap, arith, sym, ◌∙◌}
use Rattle.std.proofs.lemmas.List.{take_all}
use Rattle.std.specs.Prelude.{filter}
use Rattle.damaged_files.proofs.lemmas.reached.Filtered.{filter-kept, filter-left}
use Rattle.damaged_files.specs.reached.Nearness.{is_near}
use Rattle.damaged_files.proofs.reached.nearness.near_entries.Goals as goal
use Rattle.damaged_files.proofs.reached.nearness.near_entries.Goals.{then-is_near, else-is_near}

pub loop-slot-preserved : goal.loop-slot-preserved
loop-slot-preserved c =
    let old = c.loop-slot.invariant in
    let s = c.slot-item.result in
    let p = is_near c.args.name.now in
    elim c.if-is_near.branch [
      | then-is_near w ↦ record {
        those = rw w.files-is (filter-kept p c.args.entries.now c.loop-slot.files.items w.push.new.self.items
            c.loop-slot.slot-index s c.loop-slot-test.true c.slot-item.is (sym c.is_near.ensures ∙ w.if-is_near.true)
            old.those w.push.ensures.items);
        few = rw w.files-is (omega (arith, w.push.ensures.len, old.few));
      }
      | else-is_near w ↦ record {
        those = rw w.files-is (filter-left p c.args.entries.now c.loop-slot.files.items c.loop-slot.slot-index s
            c.loop-slot-test.true c.slot-item.is (sym c.is_near.ensures ∙ w.if-is_near.false) old.those);
        few = rw w.files-is (omega (arith, old.few));
      }
    ]

pub returns : goal.returns
returns c =
    c.loop-slot.invariant.those
    ∙ ap (filter (is_near c.args.name.now)) (take_all c.loop-slot.slot-index c.args.entries.now c.loop-slot-test.false)
