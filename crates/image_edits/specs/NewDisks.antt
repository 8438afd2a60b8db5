-- What comes of making the image of an empty disk at a path. All of it is our own.
use Rattle.std.specs.Prelude.{◌≡◌, List, ℕ, Option, codes, length}
use Rattle.d64_image.specs.Memory.{sectors_in}
use Rattle.file_changes.specs.Formats.{IsNewDisk}
use Rattle.image_file.specs.Remains.{Remains}
use Rattle.image_file.specs.paths.Traces.{Traces}
use Rattle.opened_files.specs.Ends.{JobEnd}
use Rattle.opened_files.specs.Makings.{IsMadeAt, IsNewEnd}

-- the image of an empty disk of this name and this id: the sectors of 174,848 bytes
pub record IsNewImage (name id bytes : List ℕ) : Type 0 where
  pub size : length bytes ≡ 174848
  pub new : IsNewDisk name id (sectors_in bytes)

-- such an image was made at a path, and that was printed; or the job isn't done
abbrev pub IsNewDiskEnd : {H F W : Type 0} → Traces H F → Remains F → (W → Option (List ℕ)) → H → (path name id : List ℕ)
    → W → W → JobEnd → Type 0
IsNewDiskEnd traces remains contents host path name id old new end =
    IsNewEnd contents ((image : List ℕ) × IsNewImage name id image × IsMadeAt remains traces host path image)
    (codes "FORMATTED\n") old new end
