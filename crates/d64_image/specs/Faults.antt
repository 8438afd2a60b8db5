-- The device's fault, and the numbers of an image's. Our own.
use Rattle.std.specs.Prelude.{ℕ}
use Rattle.d64_image.specs.declared.faults.DeviceFault.{DeviceFault}
use Rattle.d64_image.specs.declared.faults.ImageFault.{ImageFault}
use Rattle.d64_image.specs.declared.faults.ImageFault.TheVariants.{Size, NoMemory}

-- the one fault that a device returns
abbrev pub device_fault : DeviceFault
device_fault = record {}

-- the number by which a fault of an image is reported
abbrev pub number_of : ImageFault → ℕ
number_of Size = 1
number_of NoMemory = 2
