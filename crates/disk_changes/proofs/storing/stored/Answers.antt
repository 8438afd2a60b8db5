-- The records stored on the disk in memory, and what that tells.
use Rattle.std.proofs.Common.{refl}
use Rattle.disk_changes.proofs.StoredRecords.{store-done, store-refused}
use Rattle.disk_changes.proofs.storing.stored.Goals as goal

pub returns-in-Ok-clause-ok : goal.returns-in-Ok-clause-ok
returns-in-Ok-clause-ok c = store-done c.args.image.now c.args.name.now c.args.text.now c.args.cut c.in_ok-disk.disk
    c.store_image.new.disk c.in_ok-disk.ensures.ok.0 c.in_ok-disk.ensures.ok.1 c.in-Ok.ensures.ok.disk _ refl
    c.new-told.result.items c.new-told.ensures.items c.in-Ok.ensures.ok.printed

pub returns-in-Err-clause-err : goal.returns-in-Err-clause-err
returns-in-Err-clause-err c = rw c.in_memory.ensures
    (store-refused c.args.image.now c.args.name.now c.args.text.now c.args.cut c.in_ok-disk.disk
    c.store_image.new.disk c.in_ok-disk.ensures.ok.0 c.in_ok-disk.ensures.ok.1 c.new-told.result c.store_image.new.out
    c.in-Err.fault c.in-Err.ensures.err)
