-- What comes of several images, one after another. All of it is our own.
use Rattle.std.specs.Prelude.{◌≡◌, ◌≢◌, ⊤, ℕ, List, [], ◌∷◌, IfOk, None, Option, Some, Result, Ok, Err, Vec, max, vec_items}
use Rattle.std.specs.declared.alloc.Global.{Global}
use Rattle.std.specs.Io.KnownBytes.{Keeps}
use Rattle.opened_files.specs.Ends.{JobEnd}
use Rattle.command_faults.specs.declared.faults.CommandFault.{CommandFault}
use Rattle.command_faults.specs.declared.faults.CommandFault.TheVariants as faults
use Rattle.image_file.specs.paths.Rights.{Rights}
use Rattle.image_file.specs.paths.Standing.{Stands}
use Rattle.opened_files.specs.Extents.{taken_as}
use Rattle.opened_files.specs.HostFiles.{OfImage}
use Rattle.opened_files.specs.declared.extents.Extent.{Extent}

-- what was read of an image: its bytes, or why there are none
abbrev pub Loaded : Type 0
Loaded = Result (List ℕ) CommandFault

-- what was read of an image, from what the code holds
abbrev pub as_loaded : Result (Vec ℕ Global) CommandFault → Loaded
as_loaded (Ok image) = Ok (vec_items image)
as_loaded (Err refusal) = Err refusal

-- if an image was read, it is what is needed of a file's bytes
abbrev pub IsLoadedOf : Extent → List ℕ → Loaded → Type 0
IsLoadedOf extent all read = IfOk read (λ image. image ≡ taken_as extent all)

-- what is printed of an image was printed of what a source gave at this path, with this status
pub record IsOneFrom {W : Type 0} (gives : List ℕ → Loaded → Type 0) (prints : List ℕ → Loaded → W → W → ℕ → Type 0)
    (path : List ℕ) (old new : W) (status : ℕ) : Type 0 where
  pub read : Loaded
  pub given : gives path read
  pub one : prints path read old new status

-- the same of each of these paths, in their order, with the greatest status of theirs
abbrev pub AreEach : {W : Type 0} → (List ℕ → Loaded → Type 0) → (List ℕ → Loaded → W → W → ℕ → Type 0)
    → List (List ℕ) → W → W → ℕ → Type 0
AreEach gives prints [] old new greatest = (new ≡ old) × (greatest ≡ 0)
AreEach {W} gives prints (path ∷ paths) old new greatest =
    (mid : W) × (status : ℕ) × (rest : ℕ) × IsOneFrom gives prints path old mid status
    × AreEach gives prints paths mid new rest × (greatest ≡ max status rest)

-- and then the output handed on what it held back
pub record AreHandedOn {W : Type 0} (gives : List ℕ → Loaded → Type 0) (prints : List ℕ → Loaded → W → W → ℕ → Type 0)
    (contents : W → Option (List ℕ)) (paths : List (List ℕ)) (old new : W) (greatest : ℕ) : Type 0 where
  pub last : W
  pub each : AreEach gives prints paths old last greatest
  pub handed : Keeps (contents last) (contents new)

-- why not all of several images are printed: the output failed, or there was no memory
abbrev pub IsCutOff : CommandFault → Type 0
IsCutOff faults.File = ⊤
IsCutOff faults.NoMemory = ⊤
IsCutOff _ = ⊥

-- A job over several images ended so: it is done, with this greatest status of theirs. Or they weren't all printed.
abbrev pub IsSeveralEnd : (ℕ → Type 0) → JobEnd → Type 0
IsSeveralEnd Done (Ok None) = Done 0
IsSeveralEnd Done (Ok (Some found)) = ⊥
IsSeveralEnd Done (Err (faults.Several greatest)) = (greatest ≢ 0) × Done greatest
IsSeveralEnd Done (Err fault) = IsCutOff fault

module _ {H : Type 0} (rights : Rights H) (stands : H → List ℕ → Stands) (host : H) where
  -- what was read of the image at a path is of the bytes that the host says
  abbrev pub IsReadAt : Extent → List ℕ → Loaded → Type 0
  IsReadAt extent path read = OfImage rights stands host path (λ all. IsLoadedOf extent all read)
