-- What comes of building side sectors anew on the disk in memory.
use Rattle.std.proofs.Common.{◌≡◌, List, subst, ℕ}
use Rattle.command_faults.specs.declared.faults.CommandFault.{CommandFault}
use Rattle.command_faults.specs.declared.faults.CommandFault.TheVariants as faults
use Rattle.d64_image.specs.Images.{Image, sector}
use Rattle.d64_image.specs.Memory.{disk_image, memory, sectors_in}
use Rattle.d64_image.specs.declared.mem_disk.MemDisk.{MemDisk}
use Rattle.damaged_files.specs.sides.Rebuilt as sides
use Rattle.disk_changes.proofs.Judged.{never-fails}
use Rattle.disk_changes.specs.Judged.{in_memory}
use Rattle.disk_changes.specs.Rebuilds.{IsRebuiltOf, IsUnbuilt}
use Rattle.disk_layout.specs.Directory.{map_place}
use Rattle.disk_layout.specs.Fault.{Holds, nowhere}
use Rattle.disk_changes.specs.mended.Kinds.{HasFormatByte, HasGeosSign, IsPlainDisk}
use Rattle.disk_changes.specs.mended.Rebuilds.{IsRebuildFault, IsRebuiltDisk}

module _ (image : List ℕ) (a b : MemDisk) (is : disk_image a ≡ sectors_in image) where
  pub built-of : IsRebuiltDisk memory image a b → IsRebuiltOf image (disk_image b)
  built-of x = (
    x.run.size,
    subst (λ (i : Image). IsPlainDisk (sector i map_place)) is x.run.plain,
    subst (λ (i : Image). sides.IsRebuilt i (disk_image b)) is x.rebuilt,
  )

  pub unbuilt : {W : Type 0} (w v : W) (fault : CommandFault) → IsRebuildFault memory image a b w v fault
      → IsUnbuilt image (in_memory fault)
  unbuilt w v faults.ImageSize c = c.0
  unbuilt w v faults.NoMemory c = c.0
  unbuilt w v faults.Geos c = (c.0, subst (λ (i : Image). HasGeosSign (sector i map_place)) is c.1)
  unbuilt w v faults.Format c = (c.0, subst (λ (i : Image). ¬ (HasFormatByte (sector i map_place))) is c.1)
  unbuilt w v (faults.Layout fault) c = (
    c.0,
    subst (λ (i : Image). IsPlainDisk (sector i map_place)) is c.1,
    subst (λ (i : Image). Holds nowhere i fault) is c.2,
  )
  unbuilt w v faults.File c = c.run.size
  unbuilt w v faults.Device c = absurd (never-fails a b c.1)
  unbuilt w v _ c = absurd c
