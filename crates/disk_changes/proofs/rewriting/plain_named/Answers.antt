-- The entries that were read are those of the layout.
use Rattle.std.proofs.Common.{List, subst}
use Rattle.d64_image.specs.Memory.{disk_image}
use Rattle.disk_changes.proofs.Rewritten.{named-is, named-low, says-no}
use Rattle.disk_layout.specs.declared.slot.Slot.{Slot}
use Rattle.disk_layout.specs.Layout.{is_rel}
use Rattle.file_changes.specs.Entries.{IsFirstNamed}
use Rattle.disk_changes.proofs.rewriting.plain_named.Goals as goal

pub returns-clause-ok : goal.returns-clause-ok
returns-clause-ok c =
    let s = c.in_ok-slot.slot in
    let found = c.in_ok-slot.ensures.ok in
    let first = subst (λ (xs : List Slot). IsFirstNamed xs c.padded_name.result found.0 s) c.as_slice.ensures.value found.1 in
    named-is (disk_image c.args.disk.now) c.args.name.now c.padded_name.result c.padded_name.ensures
    c.read_so_far.new.sectors.items c.read_so_far.new.entries.items c.read_so_far.result c.read_so_far.ensures.read s found.0 first
    (says-no c.is_relative.result (is_rel s) c.is_relative.ensures c.if-is_relative.false)

pub returns-clause-low : goal.returns-clause-low
returns-clause-low c =
    let s = c.in_ok-slot.slot in
    let found = c.in_ok-slot.ensures.ok in
    let first = subst (λ (xs : List Slot). IsFirstNamed xs c.padded_name.result found.0 s) c.as_slice.ensures.value found.1 in
    named-low (disk_image c.args.disk.now) c.args.name.now c.padded_name.result c.padded_name.ensures
    c.read_so_far.new.sectors.items c.read_so_far.new.entries.items c.read_so_far.result c.read_so_far.ensures.read s found.0 first
    c.requires.sound.0 c.requires.sound.1
