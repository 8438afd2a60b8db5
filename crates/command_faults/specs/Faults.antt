-- What is reported of a command that isn't done, and its exit status. Our own.
use Rattle.std.specs.Prelude.{◌≡◌, ◌≢◌, ℕ, ◌++◌, Bool, List, codes, decimal, false, length, true}
use Rattle.std.specs.IoError.{error_kind}
use Rattle.std.specs.declared.fs.locks.TryLockError.{TryLockError}
use Rattle.std.specs.declared.fs.locks.TryLockError.TheVariants as locks
use Rattle.std.specs.declared.io.ErrorKind.{ErrorKind}
use Rattle.std.specs.declared.io.ErrorKind.TheVariants as kinds
use Rattle.d64_image.specs.Images.{Image}
use Rattle.d64_image.specs.Memory.{sectors_in}
use Rattle.d64_image.specs.declared.faults.ImageFault.{ImageFault}
use Rattle.d64_image.specs.declared.faults.ImageFault.TheVariants as images
use Rattle.disk_layout.specs.Fault.{Holds, HoldsOfClean, nowhere}
use Rattle.disk_layout.specs.Texts.{fault_text, place_text}
use Rattle.disk_layout.specs.declared.faults.Fault.{Fault}
use Rattle.rel_records.specs.declared.faults.RelFault.{RelFault}
use Rattle.rel_records.specs.declared.faults.RelFault.TheVariants as records
use Rattle.command_faults.specs.declared.faults.CommandFault.{CommandFault}
use Rattle.command_faults.specs.declared.faults.CommandFault.TheVariants as faults

-- the exit status: 3 for a file, the output, memory, the device or another program, 1 for what the image or the script holds
abbrev pub command_status : CommandFault → ℕ
command_status faults.File = 3
command_status faults.NoMemory = 3
command_status faults.Device = 3
command_status faults.InUse = 3
command_status faults.NotReady = 3
command_status (faults.Several greatest) = greatest
command_status _ = 1

-- what is reported
abbrev pub command_text : CommandFault → List ℕ
command_text faults.ImageSize = codes "IMAGE SIZE"
command_text (faults.Layout fault) = codes "LAYOUT " ++ fault_text fault
command_text faults.NoFile = codes "NO FILE"
command_text faults.FileExists = codes "FILE EXISTS"
command_text faults.DiskFull = codes "DISK FULL"
command_text faults.Locked = codes "LOCKED"
command_text faults.NoStock = codes "NO STOCK"
command_text faults.NoRequests = codes "NO REQUESTS"
command_text (faults.BadCard item) = codes "BAD CARD " ++ decimal item
command_text (faults.BadRequestCard till) = codes "BAD REQUEST CARD " ++ decimal till
command_text faults.TwoIntents = codes "TWO INTENTS"
command_text (faults.ScriptLine line) = codes "SCRIPT LINE " ++ decimal line
command_text (faults.RecordsLine line) = codes "RECORDS LINE " ++ decimal line
command_text faults.Geos = codes "GEOS"
command_text faults.Format = codes "FORMAT"
command_text faults.File = codes "FILE"
command_text faults.NoMemory = codes "NO MEMORY"
command_text faults.Device = codes "DEVICE"
command_text (faults.Short p) = codes "SHORT " ++ place_text p
command_text faults.NoProgram = codes "NO PROGRAM"
command_text faults.ShopFile = codes "SHOP FILE"
command_text faults.InUse = codes "IN USE"
command_text faults.NotReady = codes "NOT READY"
command_text (faults.StraysLeft n) = codes "KEPT " ++ decimal n
command_text faults.PathExists = codes "FILE EXISTS"
command_text faults.Log = codes "LOG"
command_text faults.LogAway = codes "LOG AWAY"
command_text faults.TwoNames = codes "TWO NAMES"
command_text faults.Trimmed = codes "TRIMMED"
command_text (faults.Several greatest) = codes "STATUS " ++ decimal greatest

-- it is reported on standard error, unless it was reported before
abbrev pub is_told : CommandFault → Bool
is_told (faults.StraysLeft n) = false
is_told faults.Trimmed = false
is_told (faults.Several greatest) = false
is_told _ = true

-- what is reported if a file or the output failed with an error of this kind
abbrev pub io_fault : ErrorKind → CommandFault
io_fault kinds.OutOfMemory = faults.NoMemory
io_fault _ = faults.File

-- and if a call of the system did that a command asked for
abbrev pub call_fault : ErrorKind → CommandFault
call_fault kinds.WouldBlock = faults.NotReady
call_fault kind = io_fault kind

-- what is reported if a file isn't locked
abbrev pub lock_fault : TryLockError → CommandFault
lock_fault locks.WouldBlock = faults.InUse
lock_fault (locks.Error error) = io_fault (error_kind error)

-- what is reported if a call on a relative file isn't done for this fault
abbrev pub record_fault : RelFault → CommandFault
record_fault records.NotFound = faults.NoFile
record_fault records.Exists = faults.FileExists
record_fault records.Full = faults.DiskFull
record_fault _ = faults.Device

-- what is reported of an image that isn't taken into memory
abbrev pub image_fault : ImageFault → CommandFault
image_fault images.Size = faults.ImageSize
image_fault images.NoMemory = faults.NoMemory

-- why an image isn't taken into memory
abbrev pub IsLoadFault : List ℕ → CommandFault → Type 0
IsLoadFault image faults.ImageSize = length image ≢ 174848
IsLoadFault image faults.NoMemory = length image ≡ 174848
IsLoadFault image _ = ⊥

-- why an image isn't that of a disk without such faults: it isn't taken into memory, or the disk has one
abbrev pub IsFaultOf : (Image → Fault → Type 0) → List ℕ → CommandFault → Type 0
IsFaultOf Has image faults.ImageSize = length image ≢ 174848
IsFaultOf Has image faults.NoMemory = length image ≡ 174848
IsFaultOf Has image (faults.Layout fault) = (length image ≡ 174848) × Has (sectors_in image) fault
IsFaultOf Has image _ = ⊥

-- why an image isn't that of a sound disk
abbrev pub IsSoundFault : List ℕ → CommandFault → Type 0
IsSoundFault image fault = IsFaultOf (Holds nowhere) image fault

-- why an image isn't that of a clean disk
abbrev pub IsCleanFault : List ℕ → CommandFault → Type 0
IsCleanFault image fault = IsFaultOf (HoldsOfClean nowhere) image fault
