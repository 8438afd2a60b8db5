-- The entries of a directory that is whole, or none.
use Rattle.std.proofs.Common.{List, inl, inr, subst}
use Rattle.d64_image.specs.Images.{Image}
use Rattle.d64_image.specs.Memory.{disk_image}
use Rattle.disk_layout.specs.declared.slot.Slot.{Slot}
use Rattle.disk_reports.specs.Outcomes.{AreConcerned}
use Rattle.disk_reports.proofs.concerned.list_concerned.Goals as goal

pub returns-in-Err-clause-files : goal.returns-in-Err-clause-files
returns-in-Err-clause-files c = inr ((c.in-Err._broken, c.in-Err.ensures.err), c.clear.ensures)

pub returns-clause-files : goal.returns-clause-files
returns-clause-files c =
    let found = c.in_default.ensures.ok in
    let files = c.keep_concerned.new.files.items in
    inl (
      found.0,
      c.read_directory.new.slots.items,
      found.1,
      subst (λ (i : Image). AreConcerned i c.args.fault c.read_directory.new.slots.items files)
          c.read_directory.ensures.reads.image
          (subst (λ (ss : List Slot). AreConcerned (disk_image c.read_directory.new.disk) c.args.fault ss files) c.as_slice.ensures.value
          c.keep_concerned.ensures),
    )
