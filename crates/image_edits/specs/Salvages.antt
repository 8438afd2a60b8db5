-- What comes of making an image of a log alone. Our own.
use Rattle.std.specs.Prelude.{◌≡◌, ◌⊎◌, ◌++◌, ◌-◌, List, ℕ, Option, Err, codes, decimal, length, replicate, take}
use Rattle.d64_image.specs.Images.{Image}
use Rattle.d64_image.specs.Memory.{bytes_of}
use Rattle.image_log.specs.Recovered.{base_end}
use Rattle.image_log.specs.Salvage.{IsSalvaged}
use Rattle.image_log.specs.declared.salvaging.Salvaged.{Salvaged}
use Rattle.command_faults.specs.declared.faults.CommandFault.TheVariants as faults
use Rattle.image_file.specs.Remains.{Remains}
use Rattle.image_file.specs.paths.Traces.{Traces}
use Rattle.opened_files.specs.Ends.{JobEnd}
use Rattle.opened_files.specs.Makings.{IsMadeAt, IsNewEnd}
use Rattle.command_faults.specs.declared.faults.CommandFault.{CommandFault}

-- the first bytes of a file, as many as a log has; zeros stand for those that it hasn't
abbrev pub log_bytes : List ℕ → List ℕ
log_bytes all = take 4198400 all ++ replicate (4198400 - length all) 0

-- what is printed of an image that was made of a log
abbrev pub salvage_text : Salvaged → List ℕ
salvage_text salvaged =
    codes "COPIED\nCOMMITS " ++ decimal salvaged.commits ++ codes "\nLEFT " ++ decimal salvaged.left ++ codes "\n"

-- this holds of the image of the log's whole commits, and of what is printed of it
abbrev pub IsOfLog : List ℕ → (Image → List ℕ → Type 0) → Type 0
IsOfLog all P = (image : Image) × (salvaged : Salvaged) × IsSalvaged (log_bytes all) image salvaged
    × P image (salvage_text salvaged)

-- why no image was taken of a log: its first commit isn't whole, or there was no memory
abbrev pub IsUnsalvaged : List ℕ → CommandFault → Type 0
IsUnsalvaged all faults.Log = base_end (log_bytes all) ≡ 0
IsUnsalvaged all faults.NoMemory = Unit
IsUnsalvaged all _ = ⊥

-- The image of a log was copied to a path, and that was printed; or the job isn't done, and this may be why.
abbrev pub IsSalvageEnd : {H F W : Type 0} → Traces H F → Remains F → (W → Option (List ℕ)) → H → (path all : List ℕ)
    → W → W → JobEnd → Type 0
IsSalvageEnd traces remains contents host path all old new end =
    ((refusal : CommandFault) × (end ≡ Err refusal) × IsUnsalvaged all refusal × (new ≡ old))
    ⊎ IsOfLog all (λ image text. IsNewEnd contents (IsMadeAt remains traces host path (bytes_of image)) text old new end)
