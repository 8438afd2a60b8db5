-- The disk in the fuse is the one on which the file was found.
use Rattle.std.proofs.Common.{subst, sym}
use Rattle.d64_image.specs.Fuses.{fuse_disk}
use Rattle.d64_image.specs.Memory.{disk_image}
use Rattle.d64_image.specs.declared.fuse.Fuse.{Fuse}
use Rattle.d64_image.specs.declared.mem_disk.MemDisk.{MemDisk}
use Rattle.disk_layout.specs.Clean.{IsClean}
use Rattle.rel_records.proofs.lemmas.Usable.{clean-usable}
use Rattle.rel_records.specs.File.{IsOf}
use Rattle.tests_worked.proofs.records.grow.Goals as goal

pub grow_to-answer-requires-clause-usable : goal.grow_to-answer-requires-clause-usable
grow_to-answer-requires-clause-usable g c =
    let fused = subst (λ (d : MemDisk). IsClean (disk_image d)) (sym c.new-fuse.ensures.disk)
    c.found-file.ensures.clean in
    clean-usable _ (subst (λ (f : Fuse MemDisk). IsClean (disk_image (fuse_disk f))) (sym c.new-metered.ensures.disk) fused)

pub grow_to-answer-requires-clause-of : goal.grow_to-answer-requires-clause-of
grow_to-answer-requires-clause-of g c =
    let P : MemDisk → Type 0 = λ d. IsOf (disk_image d) c.found-file.result in
    let fused = subst P (sym c.new-fuse.ensures.disk) c.found-file.ensures.of in
    subst (λ (f : Fuse MemDisk). P (fuse_disk f)) (sym c.new-metered.ensures.disk) fused
