-- The file that a host's file holds, from what was read of that.
use Rattle.std.proofs.Common.{◌≡◌, ◌≢◌, ◌∙◌, ◌⊎◌, ℕ, Global, List, None, Result, Some, Ok, Err, Vec, ap, inl, inr, subst, sym}
use Rattle.std.specs.Prelude.{IfErr, IfOk, vec_items}
use Rattle.command_faults.specs.declared.faults.CommandFault.TheVariants.{File, NoMemory}
use Rattle.image_file.specs.paths.Standing.{Stands}
use Rattle.opened_files.specs.HostFiles.{IsUnread, OfText}
use Rattle.command_faults.specs.declared.faults.CommandFault.{CommandFault}
use Rattle.disk_changes.specs.Cvts.{content_of}
use Rattle.image_edits.specs.Containers.{file_in}

-- it is that of the bytes that the host says
pub read-held : {H : Type 0} (stands : H → List ℕ → Stands) (host : H) (path : List ℕ) (r : Result (Vec ℕ Global) CommandFault)
    → OfText stands host path (λ all. IfOk r (λ b. file_in all ≡ Some (vec_items b)))
    → IfOk r (λ b. OfText stands host path (λ all. file_in all ≡ Some (vec_items b)))
read-held stands host path (Ok b) is = is
read-held stands host path (Err refusal) is = tt

-- where it holds none, or memory was refused, nothing was read
pub none-held : (r : Result (Vec ℕ Global) CommandFault) → IfErr r (λ refusal. (refusal ≡ NoMemory) ⊎ (refusal ≡ File))
    → IfErr r IsUnread
none-held (Ok b) is = tt
none-held (Err refusal) (inl is) = subst IsUnread (sym is) tt
none-held (Err refusal) (inr is) = subst IsUnread (sym is) tt

-- a whole CVT is the bytes that the host says
pub read-cvt : {H : Type 0} (stands : H → List ℕ → Stands) (host : H) (path : List ℕ) (r : Result (Vec ℕ Global) CommandFault)
    → OfText stands host path (λ all. IfOk r (λ b. (vec_items b ≡ all) × (content_of all ≢ None)))
    → IfOk r (λ b. OfText stands host path (λ all. (vec_items b ≡ all) × (content_of all ≢ None)))
read-cvt stands host path (Ok b) is = is
read-cvt stands host path (Err refusal) is = tt

pub whole-cvt : (r : Result (Vec ℕ Global) CommandFault) (bytes : Vec ℕ Global) (all : List ℕ) → vec_items bytes ≡ all
    → IfOk r (λ cvt. (cvt ≡ bytes) × (content_of (vec_items cvt) ≢ None))
    → IfOk r (λ cvt. (vec_items cvt ≡ all) × (content_of all ≢ None))
whole-cvt (Ok cvt) bytes all same (is, whole) =
    let here : vec_items cvt ≡ all = ap vec_items is ∙ same in
    (here, subst (λ (xs : List ℕ). content_of xs ≢ None) here whole)
whole-cvt (Err refusal) bytes all same is = tt

-- where it is none, nothing was read
pub no-cvt : (r : Result (Vec ℕ Global) CommandFault) → IfErr r (λ refusal. refusal ≡ File) → IfErr r IsUnread
no-cvt (Ok b) is = tt
no-cvt (Err refusal) is = subst IsUnread (sym is) tt
