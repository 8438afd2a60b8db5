-- How a job over a shop's image ends whose log may be away.
use Rattle.std.proofs.Common.{◌≡◌, ◌≢◌, ◌⊎◌, ◌∙◌, ℕ, List, Option, Ok, Err, ap, inl, inr, refl, subst, sym, take}
use Rattle.std.specs.Prelude.{IfErr, IfSome, IsErr, None, Some}
use Rattle.image_file.specs.paths.Standing.{AreOf, Stands}
use Rattle.opened_files.proofs.HostFiles.{of-file}
use Rattle.opened_files.proofs.Near.{unbegun-near}
use Rattle.opened_files.specs.Ends.{JobEnd}
use Rattle.opened_files.specs.HostFiles.{IsUnbegun, OfWritten}
use Rattle.opened_files.specs.Losses.{IsAwayFault}
use Rattle.damaged_files.specs.declared.sides.planning.Loss.{Loss}
use Rattle.command_faults.specs.declared.faults.CommandFault.{CommandFault}
use Rattle.command_faults.specs.declared.faults.CommandFault.TheVariants as faults
use Rattle.shop_jobs.specs.ServiceEnds.{IsNearEnd, IsNearFault}
use Rattle.image_log.specs.life.Tags.{SaysLogAway}

module _ {H : Type 0} (stands : H → List ℕ → Stands) (host : H) (path : List ℕ) (loss : Loss) where
  -- why it isn't begun
  pub near-fault : (refusal : CommandFault) → IsUnbegun refusal
      ⊎ IsAwayFault loss (OfWritten stands host path (λ all. SaysLogAway (take 174849 all))) refusal
      → IsNearFault stands host path loss refusal
  near-fault refusal (inl unbegun) is = absurd (unbegun-near refusal unbegun is)
  near-fault refusal (inr away) is = (away.1, away.2)

  -- it isn't, and nothing was printed
  pub near-unbegun : {W : Type 0} (w : W) (end : JobEnd) (refusal : CommandFault) → end ≡ Err refusal
      → IsNearFault stands host path loss refusal → IsNearEnd stands host path loss w w end
  near-unbegun w end refusal is fault = (
    subst (λ (e : JobEnd). IfErr e (IsNearFault stands host path loss)) (sym is) fault,
    λ refused all holds says. (subst (λ (e : JobEnd). IsErr e) (sym is) refl, refl),
  )

  of-other : (end : JobEnd) → end ≢ Err faults.LogAway → IfErr end (IsNearFault stands host path loss)
  of-other (Ok found) other = tt
  of-other (Err refusal) other = λ is. absurd (other (ap (λ (r : CommandFault). Err r) is))

  -- it was begun over an image that doesn't say that its log is away
  pub near-begun : {W : Type 0} (old new : W) (end : JobEnd) (items : List ℕ)
      → OfWritten stands host path (λ all. items ≡ take 174849 all) → ¬ (SaysLogAway items) → end ≢ Err faults.LogAway
      → IsNearEnd stands host path loss old new end
  near-begun old new end items read untagged other = (
    of-other end other,
    λ refused all holds says. absurd (untagged (subst (λ (bytes : List ℕ). SaysLogAway bytes) (sym (read all holds)) says)),
  )

-- what a file was read as says so of what it holds
pub says-of : (left : Option (List ℕ)) (items slice : List ℕ) → IfSome left (λ all. items ≡ take 174849 all) → slice ≡ items
    → SaysLogAway slice → IfSome left (λ all. SaysLogAway (take 174849 all))
says-of None items slice read same says = tt
says-of (Some all) items slice read same says = subst (λ (bytes : List ℕ). SaysLogAway bytes) (same ∙ read) says

-- the same of the file at a path
pub away-at : {H : Type 0} (stands : H → List ℕ → Stands) (host : H) (path : List ℕ) (left : Option (List ℕ)) (loss : Loss)
    (refusal : CommandFault) → AreOf stands host path left
    → IsUnbegun refusal ⊎ IsAwayFault loss (IfSome left (λ all. SaysLogAway (take 174849 all))) refusal
    → IsNearFault stands host path loss refusal
away-at stands host path left loss refusal are (inl unbegun) = near-fault stands host path loss refusal (inl unbegun)
away-at stands host path left loss refusal are (inr (away, refused, says)) =
    near-fault stands host path loss refusal
    (inr (away, refused, of-file stands host path left (λ all. SaysLogAway (take 174849 all)) are says))
