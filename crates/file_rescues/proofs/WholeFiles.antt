-- A file that is found, and ends so.
use Rattle.std.proofs.Common.{◌≡◌, ◌∙◌, Err, List, None, Ok, Option, Result, Some, ap, inr, subst, sym, ℕ}
use Rattle.std.specs.Prelude.{IfErr}
use Rattle.command_faults.specs.declared.faults.CommandFault.{CommandFault}
use Rattle.command_faults.specs.declared.faults.CommandFault.TheVariants as faults
use Rattle.d64_image.specs.Images.{Image}
use Rattle.d64_image.specs.Memory.{sectors_in}
use Rattle.d64_image.specs.declared.place.Place.{Place}
use Rattle.damaged_files.specs.cut.Told.{IsToldOfDisk}
use Rattle.disk_layout.specs.declared.faults.Fault.{Fault}
use Rattle.disk_layout.specs.declared.slot.Slot.{Slot}
use Rattle.file_rescues.specs.Bytes.{HasFile, file_bytes}
use Rattle.file_rescues.specs.Faults.{IsEnded}
use Rattle.file_rescues.specs.Whole.{IsNoWholeFile, IsWholeFile}
use Rattle.file_rescues.specs.declared.finding.Candidates.TheVariants.{Closed}
use Rattle.file_rescues.specs.declared.finding.Kind.TheVariants.{Any}

-- what isn't an error is none
no-error : (field : Option Place) (why : CommandFault) → Ok field ≡ Err why → ⊥
no-error field why is = cc

module _ (image name : List ℕ) (img : Image) (same : img ≡ sectors_in image) where
  pub whole : (fault : Option Fault) (file : HasFile image (Any Closed) name fault) (entry : Slot) → entry ≡ file.slot
      → (ps : List Place) → ps ≡ file.blocks → (bytes : List ℕ) → bytes ≡ file_bytes img ps file.last
      → (field : Option Place) → IsEnded img file.number fault (Ok field) → field ≡ None → IsWholeFile image name entry bytes
  whole None file entry at ps are bytes read field is none = record {
    file = file;
    entry_is = at;
    uncut = subst (λ (i : Image). IsToldOfDisk i (Some file.number) None) same
        (subst (λ (f : Option Place). IsToldOfDisk img (Some file.number) f) none is);
    bytes_are = read
        ∙ ap (λ (i : Image). file_bytes i ps file.last) same
        ∙ ap (λ (qs : List Place). file_bytes (sectors_in image) qs file.last) are;
  }
  whole (Some fault) file entry at ps are bytes read field is none = absurd (no-error field (faults.Layout fault) is)

  pub cut-short : (fault : Option Fault) (file : HasFile image (Any Closed) name fault) (field : Option Place) (p : Place)
      → IsEnded img file.number fault (Ok field) → field ≡ Some p → IsNoWholeFile image name (faults.Short p)
  cut-short None file field p is some = (
    file,
    subst (λ (i : Image). IsToldOfDisk i (Some file.number) (Some p)) same
        (subst (λ (f : Option Place). IsToldOfDisk img (Some file.number) f) some is),
  )
  cut-short (Some fault) file field p is some = absurd (no-error field (faults.Layout fault) is)

  pub faulty : (fault : Option Fault) (file : HasFile image (Any Closed) name fault) (why : CommandFault)
      → IsEnded img file.number fault (Err why) → IsNoWholeFile image name why
  faulty None file why is = absurd is
  faulty (Some fault) file why is =
      subst (λ (r : Result (Option Place) CommandFault). IfErr r (IsNoWholeFile image name)) (sym is) (inr file)
