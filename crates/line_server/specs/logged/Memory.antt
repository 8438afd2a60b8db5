-- The disk in memory over which lines are handled. All of it is our own.
use Rattle.d64_image.specs.History.{History}
use Rattle.d64_image.specs.Images.{Image}
use Rattle.d64_image.specs.Memory.{disk_image, memory}
use Rattle.d64_image.specs.declared.mem_disk.MemDisk.{MemDisk}
use Rattle.image_log.specs.Touched.{touched_disk, touching}
use Rattle.image_log.specs.declared.touched_disk.TouchedDisk.{TouchedDisk}

-- a disk in memory that notes which sectors are written
abbrev pub Memory : Type 0
Memory = TouchedDisk MemDisk

-- its history
abbrev pub in_memory : History Memory
in_memory = touching memory

-- what it holds
abbrev pub image_of : Memory → Image
image_of d = disk_image (touched_disk d)
