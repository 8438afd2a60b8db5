-- The blocks are laid, and then the entry is written.
use Rattle.std.proofs.Common.{List, subst}
use Rattle.std.specs.Prelude.{Option}
use Rattle.d64_image.specs.Memory.{disk_image}
use Rattle.d64_image.specs.declared.place.Place.{Place}
use Rattle.damaged_files.specs.reached.Reached.{IsReached}
use Rattle.disk_layout.specs.declared.faults.Fault.{Fault}
use Rattle.file_changes.specs.PutWrites.{SameBeside}
use Rattle.disk_changes.proofs.geos_putting.lay.Goals as goal

pub returns-clause-ok : goal.returns-clause-ok
returns-clause-ok c l layout =
    let img = disk_image c.args.disk.now in
    let s = c.in_ok-slot.slot in
    let blocks = c.reach_file-reach.new.blocks.items in
    let middle = disk_image c.lay_blocks.new.disk in
    record {
      named = c.in_ok-slot.ensures.ok l layout;
      blocks = blocks;
      last = c.reach_file-reach.result.last;
      reached = subst (λ (f : Option Fault). IsReached img s blocks f c.reach_file-reach.result.last)
          (c.is_broken.ensures c.if-is_broken.false) c.reach_file-reach.ensures;
      middle = middle;
      beside = subst (λ (ps : List Place). SameBeside img ps middle) c.as_slice.ensures.value c.lay_blocks.ensures;
      entry = c.geos_slot-entry.result;
      is = c.put_entry.ensures;
    }
