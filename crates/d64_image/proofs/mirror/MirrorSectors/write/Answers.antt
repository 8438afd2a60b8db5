-- Memory took the sector where the file was handed it.
use Rattle.std.proofs.Common.{◌∙◌, ap, arith, refl, rules}
use Rattle.std.proofs.lemmas.Result.{on_ok_weaker}
use Rattle.d64_image.specs.declared.mem_disk.MemDisk.{MemDisk}
use Rattle.d64_image.specs.Memory.{bytes_of, disk_bytes}
use Rattle.d64_image.specs.Offsets.{offset_of, overwritten}
use Rattle.d64_image.proofs.Mirrored.{refuses_sector, takes_sector}
use Rattle.d64_image.proofs.Offsets.{bytes_of-put}
use Rattle.d64_image.proofs.mirror.MirrorSectors.write.Goals as goal

pub returns-clause-bytes : goal.returns-clause-bytes
returns-clause-bytes g c = on_ok_weaker c.write.result
    (λ taken.
    ap bytes_of taken
    ∙ bytes_of-put c.hand_over.new.self.disk.sectors.items c.args.place c.args.from.now c.hand_over.new.self.disk.whole (omega arith)
    ∙ ap (λ (disk : MemDisk). overwritten (disk_bytes disk) (offset_of c.args.place) c.args.from.now) c.hand_over.ensures.disk)
    c.write.ensures.device.ok

pub returns-then-self-clause-device : goal.returns-then-self-clause-device
returns-then-self-clause-device g c =
    refuses_sector _ _ _ _ _ c.args.place c.args.from.now _ _ refl (search rules) (search rules) (search rules) (search rules) (search rules)

pub returns-clause-device : goal.returns-clause-device
returns-clause-device g c =
    takes_sector _ _ _ _ _ c.args.place c.args.from.now _ c.write.result c.write.ensures.never_fails (search rules) (search rules) (search rules)
    (search rules) (search rules) (search rules)
