-- The directory that was read is that of the image.
use Rattle.d64_image.specs.Memory.{disk_image}
use Rattle.disk_changes.proofs.ShopFiles.{shop-file-read, shop-file-unread}
use Rattle.disk_changes.proofs.shop_files.has_shop_file.Goals as goal

pub returns-in-Ok-clause-ok : goal.returns-in-Ok-clause-ok
returns-in-Ok-clause-ok c =
    let (size, same) = c.in_ok-disk.ensures.ok in
    let (ps, d) = c.in-Ok.ensures.ok in
    shop-file-read c.args.image.now c.args.name.now (disk_image c.in_ok-disk.disk) ps c.read_directory.new.slots.items
    c.as_slice.result.now c.has_shop_slot.result size same c.as_slice.ensures.value d c.has_shop_slot.ensures

pub returns-clause-ok : goal.returns-clause-ok
returns-clause-ok c = shop-file-unread c.args.image.now c.args.name.now (disk_image c.in_ok-disk.disk) c.in-Err.field-0
    c.in_ok-disk.ensures.ok.1 c.in-Err.ensures.err
