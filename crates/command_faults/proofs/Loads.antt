-- What holds of any fault by which an image isn't taken into memory, or isn't that of a disk without such faults.
use Rattle.std.proofs.Common.{◌≡◌, ◌≢◌, ℕ, List, length}
use Rattle.d64_image.specs.Images.{Image}
use Rattle.d64_image.specs.Memory.{sectors_in}
use Rattle.disk_layout.specs.declared.faults.Fault.{Fault}
use Rattle.command_faults.specs.Faults.{IsFaultOf, IsLoadFault}
use Rattle.command_faults.specs.declared.faults.CommandFault.{CommandFault}
use Rattle.command_faults.specs.declared.faults.CommandFault.TheVariants as faults

-- it isn't taken into memory
pub by-load : (image : List ℕ) (P : CommandFault → Type 0) → (length image ≢ 174848 → P faults.ImageSize)
    → (length image ≡ 174848 → P faults.NoMemory) → (fault : CommandFault) → IsLoadFault image fault → P fault
by-load image P size memory faults.ImageSize told = size told
by-load image P size memory faults.NoMemory told = memory told
by-load image P size memory _ told = absurd told

-- or the disk has a fault
pub by-fault : (Has : Image → Fault → Type 0) (image : List ℕ) (P : CommandFault → Type 0)
    → (length image ≢ 174848 → P faults.ImageSize) → (length image ≡ 174848 → P faults.NoMemory)
    → ((fault : Fault) → length image ≡ 174848 → Has (sectors_in image) fault → P (faults.Layout fault))
    → (fault : CommandFault) → IsFaultOf Has image fault → P fault
by-fault Has image P size memory layout faults.ImageSize told = size told
by-fault Has image P size memory layout faults.NoMemory told = memory told
by-fault Has image P size memory layout (faults.Layout fault) told = layout fault told.0 told.1
by-fault Has image P size memory layout _ told = absurd told

-- an image that isn't taken into memory isn't that of a disk without such faults
pub load-is : (Has : Image → Fault → Type 0) (image : List ℕ) (fault : CommandFault) → IsLoadFault image fault
    → IsFaultOf Has image fault
load-is Has image = by-load image (IsFaultOf Has image) (λ size. size) (λ size. size)
