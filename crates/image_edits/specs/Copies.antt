-- What comes of making an image at a path from another, or from a log. All of it is our own.
use Rattle.std.specs.Prelude.{◌≡◌, ◌≢◌, ◌⊎◌, List, ℕ, Option, Err, length}
use Rattle.command_faults.specs.declared.faults.CommandFault.TheVariants as faults
use Rattle.image_file.specs.Remains.{Remains}
use Rattle.image_file.specs.paths.Traces.{Traces}
use Rattle.opened_files.specs.Ends.{JobEnd}
use Rattle.opened_files.specs.Makings.{IsMadeAt, IsNewEnd}

-- An image was copied to a path, and this was printed; or the job isn't done. An image of another size isn't copied.
abbrev pub IsCopyEnd : {H F W : Type 0} → Traces H F → Remains F → (W → Option (List ℕ)) → H → (path text image : List ℕ)
    → W → W → JobEnd → Type 0
IsCopyEnd traces remains contents host path text image old new end =
    ((length image ≢ 174848) × (new ≡ old) × (end ≡ Err faults.ImageSize))
    ⊎ ((length image ≡ 174848) × IsNewEnd contents (IsMadeAt remains traces host path image) text old new end)
