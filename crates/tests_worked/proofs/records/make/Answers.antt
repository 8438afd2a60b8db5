-- The disk in the fuse is the one that was clean.
use Rattle.std.proofs.Common.{subst, sym}
use Rattle.d64_image.specs.Fuses.{fuse_disk}
use Rattle.d64_image.specs.Memory.{disk_image}
use Rattle.d64_image.specs.declared.fuse.Fuse.{Fuse}
use Rattle.d64_image.specs.declared.mem_disk.MemDisk.{MemDisk}
use Rattle.disk_layout.specs.Clean.{IsClean}
use Rattle.rel_records.proofs.lemmas.Usable.{clean-usable}
use Rattle.tests_worked.proofs.records.make.Goals as goal

pub create-requires-clause-usable : goal.create-requires-clause-usable
create-requires-clause-usable g c =
    let fused = subst (λ (d : MemDisk). IsClean (disk_image d)) (sym c.new-fuse.ensures.disk) c.clean.ensures in
    clean-usable _ (subst (λ (f : Fuse MemDisk). IsClean (disk_image (fuse_disk f))) (sym c.new-metered.ensures.disk) fused)
