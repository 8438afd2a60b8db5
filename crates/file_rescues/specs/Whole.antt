-- A file of an image all of which is there (1541 User's Guide, how files are stored).
use Rattle.std.specs.Prelude.{◌≡◌, ◌≢◌, ◌⊎◌, ℕ, List, None, Some, length}
use Rattle.d64_image.specs.Memory.{sectors_in}
use Rattle.damaged_files.specs.cut.Told.{IsToldOfImage}
use Rattle.disk_layout.specs.declared.slot.Slot.{Slot}
use Rattle.command_faults.specs.declared.faults.CommandFault.{CommandFault}
use Rattle.command_faults.specs.declared.faults.CommandFault.TheVariants as faults
use Rattle.file_rescues.specs.Bytes.{HasFile, HasNoFile, file_bytes}
use Rattle.file_rescues.specs.declared.finding.Candidates.TheVariants.{Closed}
use Rattle.file_rescues.specs.declared.finding.Kind.TheVariants.{Any}

-- the first closed file of that name has this entry and these bytes: no fault is in the way of it, and it isn't cut short
pub record IsWholeFile (image name : List ℕ) (entry : Slot) (bytes : List ℕ) : Type 0 where
  pub file : HasFile image (Any Closed) name None
  pub entry_is : entry ≡ file.slot
  pub uncut : IsToldOfImage image (Some file.number) None
  pub bytes_are : bytes ≡ file_bytes (sectors_in image) file.blocks file.last

-- why there is no such file: none has the name, or this fault is in its way, or it is cut short there
abbrev pub IsNoWholeFile : (image name : List ℕ) → CommandFault → Type 0
IsNoWholeFile image name faults.ImageSize = length image ≢ 174848
IsNoWholeFile image name faults.NoMemory = length image ≡ 174848
IsNoWholeFile image name faults.NoFile = HasNoFile image (Any Closed) name None
IsNoWholeFile image name (faults.Layout fault) =
    HasNoFile image (Any Closed) name (Some fault) ⊎ HasFile image (Any Closed) name (Some fault)
IsNoWholeFile image name (faults.Short p) =
    (file : HasFile image (Any Closed) name None) × IsToldOfImage image (Some file.number) (Some p)
IsNoWholeFile image name _ = ⊥
