-- The file of a job that changes an image: a disk in memory, and the file that is handed each of its sectors. Our own.
use Rattle.std.specs.Prelude.{◌≡◌, ◌⊎◌, ℕ, List, Option, None, length}
use Rattle.d64_image.specs.Keeps.{Keeps}
use Rattle.d64_image.specs.KeptDisks.{keeps_device, kept_disk}
use Rattle.d64_image.specs.Memory.{disk_image, sectors_in}
use Rattle.d64_image.specs.Mirrors.{IsMirrored, is_broken, mirror, mirror_at, mirror_disk, mirror_file}
use Rattle.d64_image.specs.declared.device_as_file.DeviceAsFile.{DeviceAsFile}
use Rattle.d64_image.specs.declared.mirror.Mirror.{Mirror}
use Rattle.host_session.specs.shop.Shop.{IsShop, Shop}
use Rattle.command_faults.specs.Faults.{IsLoadFault}
use Rattle.command_faults.specs.declared.faults.CommandFault.{CommandFault}
use Rattle.command_faults.specs.declared.faults.CommandFault.TheVariants as faults

-- what it keeps: what its memory holds, of which the file was handed each sector first
abbrev pub stream : {F : Type 0} → (F → Option ℕ) → (F → Option (List ℕ)) → (F → Option (List ℕ)) → Keeps (DeviceAsFile (Mirror F))
stream position bytes contents = keeps_device (mirror position bytes contents)

-- the file
abbrev pub stream_file : {F : Type 0} → DeviceAsFile (Mirror F) → F
stream_file s = mirror_file (kept_disk s)

-- It holds the image, and its file isn't touched yet.
pub record IsBegun {F : Type 0} (image : List ℕ) (s : DeviceAsFile (Mirror F)) : Type 0 where
  pub size : length image ≡ 174848
  pub holds : disk_image (mirror_disk (kept_disk s)) ≡ sectors_in image
  pub at : mirror_at (kept_disk s) ≡ None
  pub whole : is_broken (kept_disk s) → ⊥

-- why no file is taken up: there is none, or the image has another size, or there was no memory for it
abbrev pub WhyUnbegun : {F : Type 0} → (image : List ℕ) → Option F → CommandFault → Type 0
WhyUnbegun image file fault = ((file ≡ None) × (fault ≡ faults.File)) ⊎ IsLoadFault image fault

-- If the image is a shop's, the file was handed only sectors, each at 256 times its index and before memory took it.
abbrev pub HandsSectors : {F : Type 0} → (F → Option ℕ) → (F → Option (List ℕ)) → (F → Option (List ℕ)) → List ℕ
    → DeviceAsFile (Mirror F) → DeviceAsFile (Mirror F) → Type 0
HandsSectors position bytes contents image old new =
    (s : Shop) → IsShop (sectors_in image) s → IsMirrored position bytes contents (kept_disk old) (kept_disk new)
