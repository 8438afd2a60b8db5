-- The text that a change takes, from what was read of a file.
use Rattle.std.proofs.Common.{◌≡◌, ℕ, Global, List, Result, Ok, Err, Vec, inl, subst, sym}
use Rattle.std.proofs.lemmas.Result.{IfErr-weaker}
use Rattle.std.specs.Prelude.{IfErr, IfOk, take, vec_items}
use Rattle.command_faults.specs.declared.faults.CommandFault.TheVariants.{NoMemory}
use Rattle.image_file.specs.paths.Rights.{Rights}
use Rattle.image_file.specs.paths.Standing.{Stands}
use Rattle.opened_files.specs.HostFiles.{IsUnbegun, IsUnread, OfImage, OfText}
use Rattle.command_faults.specs.declared.faults.CommandFault.{CommandFault}

-- what is known of what was read is of the bytes that the host says
pub read-of : {H : Type 0} (stands : H → List ℕ → Stands) (host : H) (path : List ℕ) (r : Result (Vec ℕ Global) CommandFault)
    (f : List ℕ → List ℕ) → OfText stands host path (λ all. IfOk r (λ b. vec_items b ≡ f all))
    → IfOk r (λ b. OfText stands host path (λ all. vec_items b ≡ f all))
read-of stands host path (Ok b) f is = is
read-of stands host path (Err refusal) f is = tt

-- the same of an image
pub image-read : {H : Type 0} (rights : Rights H) (stands : H → List ℕ → Stands) (host : H) (path : List ℕ)
    (r : Result (Vec ℕ Global) CommandFault) → OfImage rights stands host path (λ all. IfOk r (λ b. vec_items b ≡ take 174849 all))
    → IfOk r (λ b. OfImage rights stands host path (λ all. vec_items b ≡ take 174849 all))
image-read rights stands host path (Ok b) is = is
image-read rights stands host path (Err refusal) is = tt

-- what isn't read isn't begun
pub unread-unbegun : (r : Result (Vec ℕ Global) CommandFault) → IfErr r IsUnread → IfErr r IsUnbegun
unread-unbegun r unread = IfErr-weaker r _ _ (λ refusal why. inl (inl why)) unread

-- where memory was refused, nothing was read
pub no-memory : (r : Result (Vec ℕ Global) CommandFault) → IfErr r (λ refusal. refusal ≡ NoMemory)
    → IfErr r IsUnread
no-memory (Ok b) is = tt
no-memory (Err refusal) is = subst IsUnread (sym is) tt
