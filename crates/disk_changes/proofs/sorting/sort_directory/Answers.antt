-- The slots that were read are those of the layout's directory.
use Rattle.std.proofs.Common.{List, ap, ap₂, length, subst, sym, ◌∙◌}
use Rattle.std.specs.Prelude.{Contains}
use Rattle.std.proofs.lemmas.List.Sorted.{length_permutation}
use Rattle.d64_image.specs.Memory.{disk_image}
use Rattle.disk_changes.proofs.Slots.{slot-low}
use Rattle.disk_changes.specs.Sorts.{AreInOrder, all_slots, with_entries}
use Rattle.disk_layout.specs.declared.slot.Slot.{Slot}
use Rattle.file_rescues.proofs.SoundDirectory.{read-sectors}
use Rattle.disk_changes.proofs.sorting.sort_directory.Goals as goal

pub put_entries-requires-clause-low : goal.put_entries-requires-clause-low
put_entries-requires-clause-low c s there = slot-low (disk_image c.args.disk.now) c.as_slice.result.now s
    (subst (λ (xs : List Slot). Contains xs s) (c.as_slice-3.ensures.value ∙ c.slots_of-slots.ensures) there)

pub put_entries-requires-clause-many : goal.put_entries-requires-clause-many
put_entries-requires-clause-many c = ap length c.as_slice-4.ensures.value
    ∙ length_permutation _ _ c.in_ok-sorted.ensures.ok.moved
    ∙ ap length (c.as_slice-2.ensures.value ∙ sym c.as_slice-3.ensures.value)

pub returns-clause-ok : goal.returns-clause-ok
returns-clause-ok c l layout =
    let img = disk_image c.args.disk.now in
    let entries = c.in_ok-sorted.sorted.items in
    let all = c.slots_of-slots.ensures ∙ ap (all_slots img) (c.as_slice.ensures.value
    ∙ read-sectors img l layout c.read_so_far.new.sectors.items c.read_so_far.new.entries.items c.read_so_far.result
    c.read_so_far.ensures.read) in
    record {
      entries = entries;
      order = subst (λ (xs : List Slot). AreInOrder xs entries) (c.as_slice-2.ensures.value ∙ all) c.in_ok-sorted.ensures.ok;
      is = c.put_entries.ensures
          ∙ ap₂ (with_entries img) (c.as_slice-3.ensures.value ∙ all) c.as_slice-4.ensures.value;
    }
