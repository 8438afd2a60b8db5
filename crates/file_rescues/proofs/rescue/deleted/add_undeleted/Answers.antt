-- One deleted entry more.
use Rattle.std.proofs.Common.{◌≡◌, ◌+◌, ◌++◌, ◌∷◌, [], Bool, List, ap, append_assoc, length, subst, sym, take, ◌∙◌}
use Rattle.std.proofs.lemmas.List.{take_more}
use Rattle.d64_image.specs.Memory.{disk_image}
use Rattle.disk_layout.specs.declared.slot.Slot.{Slot}
use Rattle.file_rescues.proofs.lemmas.rescue.Undeleted.{front-same, undeleted-more}
use Rattle.file_rescues.specs.rescue.Rescues.{AreUndeleted, with_untaken}
use Rattle.file_rescues.specs.rescue.Sharing.{is_taken}
use Rattle.file_rescues.specs.declared.rescue.rescuing.Rescued.{Rescued}
use Rattle.file_rescues.proofs.rescue.deleted.add_undeleted.Goals as goal

pub loop-slot-preserved : goal.loop-slot-preserved
loop-slot-preserved c =
    let old = c.args.files.now.items in
    let directory = c.args.directory.now in
    let file = c.in_ok-file.file in
    let (found, items, are) = c.loop-slot.invariant in
    let taken-now : Bool = is_taken directory old file in
    let told : c.is_taken-taken.result ≡ taken-now = c.is_taken-taken.ensures
    ∙ ap (λ (fs : List Rescued). is_taken directory fs file)
    (front-same old found c.as_slice-in-loop-slot.result.now c.loop-slot.files.items
    (length c.as_slice-used.result.now) (ap (λ (fs : List Rescued). length fs) c.as_slice-used.ensures.value)
    c.as_slice-in-loop-slot.ensures.value items) in
    let slots = c.as_slice-slots.result.now in
    let k = c.loop-slot.slot-index in
    let taken : take (k + 1) slots ≡ take k slots ++ c.slot-item.result ∷ [] =
    take_more slots k c.slot-item.result c.loop-slot-test.true
    ∙ ap (λ (s : Slot). take k slots ++ s ∷ []) (sym c.slot-item.is) in (
      found ++ with_untaken taken-now file [],
      c.in_ok-add_untaken.ensures.ok
          ∙ ap (λ (o : Bool). c.loop-slot.files.items ++ with_untaken o file []) told
          ∙ ap (λ (fs : List Rescued). fs ++ with_untaken taken-now file []) items
          ∙ append_assoc old found (with_untaken taken-now file []),
      subst (λ (ss : List Slot). AreUndeleted c.args.image.now (disk_image c.args.disk.now) directory old ss
          (found ++ with_untaken taken-now file [])) (sym taken)
          (undeleted-more c.args.image.now (disk_image c.args.disk.now) directory old (take k slots) c.slot-item.result file found are
          c.in_ok-file.ensures.slot c.in_ok-file.ensures.ok),
    )
