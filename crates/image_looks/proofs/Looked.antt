-- How a look ended, from what its command says of what it printed.
use Rattle.std.proofs.Common.{◌≡◌, ◌≢◌, ℕ, List, None, Option, Result, Ok, Err, Some, inl, inr, refl, subst, sym}
use Rattle.std.specs.Prelude.{IfErr, IfOk, IsErr, OnErr, OnOk, ⊤}
use Rattle.d64_image.specs.declared.place.Place.{Place}
use Rattle.disk_layout.specs.declared.faults.Fault.{Fault}
use Rattle.command_faults.specs.declared.faults.CommandFault.{CommandFault}
use Rattle.command_faults.specs.declared.faults.CommandFault.TheVariants as faults
use Rattle.opened_files.specs.Ends.{JobEnd, as_run, IsPrintEnd, IsQuietPrint}
use Rattle.opened_files.specs.HostFiles.{IsUnbegun, RunEnds}
use Rattle.image_looks.specs.Looks.{IsTakingEnd, WhyNoBytes, taken_end}
use Rattle.damaged_files.specs.reached.Sizes.{disk_of}
use Rattle.file_rescues.specs.LongRecords.{WhyNoDiskRecords, WhyNotOut}
use Rattle.file_rescues.specs.declared.finding.Candidates.{Candidates}
use Rattle.file_rescues.specs.declared.finding.Candidates.TheVariants.{All, Closed}
use Rattle.file_rescues.specs.declared.forms.FileForm.{FileForm}
use Rattle.file_rescues.specs.declared.forms.RecordForm.{RecordForm}

module _ {W : Type 0} (old new : W) where
  -- of what reports a fault
  pub printed : (Printed : W → W → Option Fault → Type 0) (Why : CommandFault → Type 0)
      (end : JobEnd) → IfOk end (Printed old new) → IfErr end Why → IfErr end (λ fault. fault ≢ faults.File → new ≡ old)
      → IsPrintEnd Printed Why old new end
  printed Printed Why (Ok found) ok err untouched = ok
  printed Printed Why (Err fault) ok err untouched = (err, untouched)

  -- of what reports none
  pub quietly-printed : (Printed : W → W → Type 0) (Why : CommandFault → Type 0) (ended : Result Unit CommandFault)
      (end : JobEnd) → end ≡ as_run ended → OnOk ended (Printed old new) → IfErr ended Why
      → IfErr ended (λ fault. fault ≢ faults.File → new ≡ old) → IsQuietPrint Printed Why old new end
  quietly-printed Printed Why (Ok _) end is ok err untouched =
      subst (IsQuietPrint Printed Why old new) (sym is) (refl, ok)
  quietly-printed Printed Why (Err fault) end is ok err untouched =
      subst (IsQuietPrint Printed Why old new) (sym is) (err, untouched)

  -- of what is taken out of an image
  pub taken : (Taken : W → W → Option Place → Type 0) (Why : W → W → CommandFault → Type 0)
      → ((p : Place) → Why old new (faults.Short p) → ⊥) → (ended : Result (Option Place) CommandFault) (end : JobEnd)
      → end ≡ taken_end ended → IfOk ended (Taken old new) → IfErr ended (Why old new) → IsTakingEnd Taken Why old new end
  taken Taken Why other (Ok (Some p)) end is ok err = subst (IsTakingEnd Taken Why old new) (sym is) ok
  taken Taken Why other (Ok None) end is ok err = subst (IsTakingEnd Taken Why old new) (sym is) ok
  taken Taken Why other (Err (faults.Short p)) end is ok err = absurd (other p err)
  taken Taken Why other (Err _) end is ok err = subst (IsTakingEnd Taken Why old new) (sym is) err

-- the records that aren't taken are none of a file that is cut short
no-cut-disk : {W : Type 0} (contents : W → Option (List ℕ)) (form : RecordForm) (candidates : Candidates)
    (image name : List ℕ) (old new : W) (p : Place)
    → WhyNoDiskRecords contents form candidates image name old new (faults.Short p) → ⊥
no-cut-disk contents form Closed image name old new p why = why.0
no-cut-disk contents form All image name old new p why = why.0

pub no-cut-records : {W : Type 0} (contents : W → Option (List ℕ)) (form : RecordForm) (candidates : Candidates)
    (image name : List ℕ) (old new : W) (p : Place)
    → WhyNotOut contents form candidates image name old new (faults.Short p) → ⊥
no-cut-records contents form candidates image name old new p (inl (none, why)) =
    no-cut-disk contents form candidates (disk_of image) name old new p why
no-cut-records contents form candidates image name old new p (inr (inl (never, same))) = never
no-cut-records contents form candidates image name old new p (inr (inr (sectors, apart, file, stop))) = stop.0

-- the fault says that a file is cut short
abbrev SaysShort : CommandFault → Type 0
SaysShort (faults.Short p) = ⊤
SaysShort _ = ⊥

-- nor are the bytes that aren't all printed, or aren't those of a program
pub no-cut-bytes : {W : Type 0} (contents : W → Option (List ℕ)) (form : FileForm) (candidates : Candidates)
    (image name : List ℕ) (old new : W) (p : Place)
    → WhyNoBytes contents form candidates image name old new (faults.Short p) → ⊥
no-cut-bytes contents form candidates image name old new p (inl (none, inl other), part) =
    subst (λ (why : CommandFault). SaysShort why) other.0 tt
no-cut-bytes contents form candidates image name old new p (inl (none, inr never), part) = never
no-cut-bytes contents form candidates image name old new p (inr (inl (never, same)), part) = never
no-cut-bytes contents form candidates image name old new p (inr (inr (sectors, apart, file, never)), part) = never

-- three clauses of what was done are one
pub if-all : {T E : Type 0} (P Q R : T → Type 0) (ended : Result T E) → IfOk ended P → IfOk ended Q → IfOk ended R
    → IfOk ended (λ t. P t × Q t × R t)
if-all P Q R (Ok _) p q r = (p, q, r)
if-all P Q R (Err _) p q r = tt

-- two clauses of why it wasn't are one
pub if-both : {T E : Type 0} (P : E → Type 0) (Q : Type 0) (ended : Result T E) → IfErr ended P → OnErr ended Q
    → IfErr ended (λ e. P e × Q)
if-both P Q (Ok _) p q = tt
if-both P Q (Err _) p q = (p, q)

-- an image wasn't read, so the run over it wasn't begun
pub unbegun : {W : Type 0} (out : W) (end : JobEnd) (fault : CommandFault) (Run : Type 0) → end ≡ Err fault → IsUnbegun fault
    → RunEnds out out end Run
unbegun out end fault Run is why =
    inr (refl, subst (λ (e : JobEnd). IsErr e) (sym is) refl, subst (λ (e : JobEnd). IfErr e IsUnbegun) (sym is) why)

-- what a run comes to comes to something else
pub ends-weaker : {W : Type 0} (old new : W) (end : JobEnd) (P Q : Type 0) → (P → Q) → RunEnds old new end P
    → RunEnds old new end Q
ends-weaker old new end P Q weaker (inl run) = inl (weaker run)
ends-weaker old new end P Q weaker (inr none) = inr none
