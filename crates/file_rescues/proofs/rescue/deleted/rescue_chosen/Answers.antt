-- There are few files, with the deleted ones or without.
use Rattle.std.proofs.Common.{ap, ◌∙◌}
use Rattle.d64_image.specs.Memory.{disk_image}
use Rattle.file_rescues.proofs.lemmas.rescue.Undeleted.{few-all, few-used}
use Rattle.file_rescues.proofs.rescue.deleted.rescue_chosen.Goals as goal
use Rattle.file_rescues.proofs.rescue.deleted.rescue_chosen.Goals.{then-choice+in_ok-add_undeleted, else-choice}

pub returns-clause-few : goal.returns-clause-few
returns-clause-few c = elim c.if-choice.branch [
  | then-choice+in_ok-add_undeleted w ↦
      let (found, items, are) = w.in_ok-add_undeleted.ensures.ok in
      few-all c.args.image.now (disk_image c.args.disk.now) c.args.directory.now c.as_slice.result.now
      c.in_ok-files.files.items found c.if-choice.files.items c.requires
      (c.as_slice.ensures.value ∙ c.used_of-entries.ensures) c.in_ok-files.ensures.few are
      (ap (λ v. v.items) w.files-is ∙ items)
  | else-choice w ↦
      few-used (disk_image c.args.disk.now) c.args.directory.now c.as_slice.result.now c.if-choice.files.items
      c.in_ok-files.files.items c.requires (c.as_slice.ensures.value ∙ c.used_of-entries.ensures)
      c.in_ok-files.ensures.few (ap (λ v. v.items) w.files-is)
]
