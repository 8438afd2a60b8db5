-- The entries and the deleted ones that were read are those of the layout.
use Rattle.std.proofs.Common.{◌∙◌}
use Rattle.std.proofs.lemmas.Result.{IfErr-weaker, IfOk-weaker}
use Rattle.d64_image.specs.Memory.{disk_image}
use Rattle.disk_changes.proofs.Undeleted.{exists, low, not-found, undeletable}
use Rattle.damaged_files.specs.reached.Directories.{IsReadSoFar}
use Rattle.disk_changes.proofs.undeleting.find_deleted.Goals as goal
use Rattle.disk_changes.proofs.undeleting.find_deleted.Goals.{After-choose_named-in-Err, In-Ok}

read-ok : (c : In-Ok) → IsReadSoFar (disk_image c.args.disk.now) c.as_slice.result.now c.as_slice-2.result.now c.read_so_far.result
read-ok c = rw (c.as_slice.ensures.value, c.as_slice-2.ensures.value) c.read_so_far.ensures.read

read-err : (c : After-choose_named-in-Err) → IsReadSoFar (disk_image c.args.disk.now) c.as_slice.result.now c.as_slice-2.result.now c.read_so_far.result
read-err c = rw (c.as_slice.ensures.value, c.as_slice-2.ensures.value) c.read_so_far.ensures.read

pub returns-in-Ok-clause-err : goal.returns-in-Ok-clause-err
returns-in-Ok-clause-err c = exists (disk_image c.args.disk.now) c.args.name.now c.padded_name-padded.result
    c.padded_name-padded.ensures c.as_slice.result.now c.as_slice-2.result.now c.deleted_of-deleted.result.items
    c.read_so_far.result (read-ok c) c.deleted_of-deleted.ensures c.in-Ok.field-0 c.in-Ok.ensures.ok

pub returns-in-Err-clause-ok : goal.returns-in-Err-clause-ok
returns-in-Err-clause-ok c = IfOk-weaker c.choose_named-in-Err.result _ _
    (undeletable (disk_image c.args.disk.now) c.args.name.now c.padded_name-padded.result c.padded_name-padded.ensures
    c.as_slice.result.now c.as_slice-2.result.now c.as_slice-in-Err.result.now c.read_so_far.result (read-err c)
    (c.as_slice-in-Err.ensures.value ∙ c.deleted_of-deleted.ensures) c.in-Err.ensures.err.1) c.choose_named-in-Err.ensures.ok

pub returns-in-Err-clause-low : goal.returns-in-Err-clause-low
returns-in-Err-clause-low c = IfOk-weaker c.choose_named-in-Err.result _ _
    (low (disk_image c.args.disk.now) c.args.name.now c.padded_name-padded.result c.padded_name-padded.ensures
    c.as_slice.result.now c.as_slice-2.result.now c.as_slice-in-Err.result.now c.read_so_far.result (read-err c)
    (c.as_slice-in-Err.ensures.value ∙ c.deleted_of-deleted.ensures)) c.choose_named-in-Err.ensures.ok

pub returns-in-Err-clause-err : goal.returns-in-Err-clause-err
returns-in-Err-clause-err c = IfErr-weaker c.choose_named-in-Err.result _ _
    (not-found (disk_image c.args.disk.now) c.args.name.now c.padded_name-padded.result c.padded_name-padded.ensures
    c.as_slice.result.now c.as_slice-2.result.now c.as_slice-in-Err.result.now c.read_so_far.result (read-err c)
    (c.as_slice-in-Err.ensures.value ∙ c.deleted_of-deleted.ensures) c.in-Err.ensures.err.1) c.choose_named-in-Err.ensures.err
