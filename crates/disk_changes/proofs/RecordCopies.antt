-- The records of a file of another image, which are copied, or why they aren't.
use Rattle.std.proofs.Common.{◌≡◌, ◌∙◌, ◌++◌, [], List, ap, inl, inr, subst, ℕ, ⊎_elim}
use Rattle.std.specs.Prelude.{None, Option, Some}
use Rattle.command_faults.specs.declared.faults.CommandFault.{CommandFault}
use Rattle.command_faults.specs.declared.faults.CommandFault.TheVariants as faults
use Rattle.d64_image.specs.Memory.{sectors_in}
use Rattle.d64_image.specs.declared.place.Place.{Place}
use Rattle.damaged_files.specs.cut.Told.{IsToldOfImage}
use Rattle.disk_changes.specs.Copies.{IsNoTextOf, IsTextOf}
use Rattle.disk_changes.specs.Judged.{in_memory}
use Rattle.disk_layout.specs.Layout.{File}
use Rattle.disk_layout.specs.Records.{records}
use Rattle.file_rescues.specs.Printed.{IsRecordsFault}
use Rattle.file_rescues.specs.Records.{IsRecordFile, records_text}
use Rattle.file_rescues.specs.declared.forms.RecordForm.TheVariants.{Lines}

module _ (source name : List ℕ) where
  pub text-of : (file : File) (is : IsRecordFile source name file) (found : Option Place) → IsToldOfImage source (Some is.number) found
      → found ≡ None → (before text : List ℕ) → before ≡ [] → text ≡ before ++ records_text (records (sectors_in source) file)
      → IsTextOf source name text
  text-of file is found told none before text empty printed = (
    file,
    is,
    subst (IsToldOfImage source (Some is.number)) none told,
    printed ∙ ap (λ (t : List ℕ). t ++ records_text (records (sectors_in source) file)) empty,
  )

  pub cut-text : (file : File) (is : IsRecordFile source name file) (found : Option Place) (p : Place)
      → IsToldOfImage source (Some is.number) found → found ≡ Some p → IsNoTextOf source name (faults.Short p)
  cut-text file is found p told some = (file, is, subst (IsToldOfImage source (Some is.number)) some told)

  pub no-text : {W : Type 0} (contents : W → Option (List ℕ)) (old new : W) (fault : CommandFault)
      → IsRecordsFault contents Lines source name old new fault → IsNoTextOf source name (in_memory fault)
  no-text contents old new faults.ImageSize c = c.0
  no-text contents old new faults.NoMemory c = c.0
  no-text contents old new (faults.Layout fault) c = ⊎_elim (λ none. inl none.0) (λ printed. inr printed.file) c.1
  no-text contents old new faults.NoFile c = c.0
  no-text contents old new faults.File c = ⊎_elim (λ file. file.1.size) (λ reached. reached.0) c
  no-text contents old new _ c = absurd c
