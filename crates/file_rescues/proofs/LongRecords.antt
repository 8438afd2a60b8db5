-- Records of files that go on past track 35, and what comes of them.
use Rattle.std.proofs.Common.{◌≡◌, ◌∙◌, ℕ, List, Err, None, Ok, Option, Result, inl, inr, subst, sym}
use Rattle.std.proofs.lemmas.Result.{IfErr-weaker, IfOk-weaker}
use Rattle.std.specs.Io.KnownBytes.{Appends}
use Rattle.std.specs.Prelude.{IfErr, IfOk, IsTrue, OnErr}
use Rattle.command_faults.specs.declared.faults.CommandFault.{CommandFault}
use Rattle.d64_image.specs.declared.place.Place.{Place}
use Rattle.damaged_files.specs.reached.Sizes.{disk_of}
use Rattle.disk_layout.specs.declared.faults.Fault.{Fault}
use Rattle.disk_layout.specs.declared.slot.Slot.{Slot}
use Rattle.file_rescues.specs.Found.{has_records}
use Rattle.file_rescues.specs.Long.{IsFoundLong, IsNoLongFile}
use Rattle.file_rescues.specs.LongRecords.{AreDiskRecordsTaken, AreLinesStopped, AreRecordsOut, WhyNoDiskRecords, WhyNotOut, long_lines}
use Rattle.file_rescues.specs.declared.finding.Candidates.{Candidates}
use Rattle.file_rescues.specs.declared.finding.Kind.TheVariants.{Records}
use Rattle.file_rescues.specs.declared.forms.RecordForm.{RecordForm}

-- two clauses of why something wasn't done are one
pub if-both : {T E : Type 0} (P : E → Type 0) (Q : Type 0) (ended : Result T E) → IfErr ended P → OnErr ended Q
    → IfErr ended (λ e. P e × Q)
if-both P Q (Ok _) p q = tt
if-both P Q (Err _) p q = (p, q)

-- a file that was asked for by its records has some
pub records-there : (candidates : Candidates) (image name sectors : List ℕ) (apart : Option Fault) (slot : Slot) (left : Option Place)
    → IsFoundLong image (Records candidates) name sectors apart slot left → IsTrue (has_records slot)
records-there candidates image name sectors apart slot left found =
    subst (λ (s : Slot). IsTrue (has_records s)) (sym (found.entry ∙ found.file.had.entry)) found.file.had.first.asked.1

module _ {W : Type 0} (contents : W → Option (List ℕ)) (form : RecordForm) (candidates : Candidates) (image name : List ℕ)
    (old new : W) (r : Result (Option Place) CommandFault)
  where
    module _ (sectors : List ℕ) (apart : Option Fault) (slot : Slot) (left : Option Place)
        (found : IsFoundLong image (Records candidates) name sectors apart slot left)
      where
        -- its records were printed
        pub long-taken : IfOk r (λ cut. (apart ≡ None) × (cut ≡ None)
            × Appends (contents old) (contents new) (long_lines form image slot sectors))
            → IfOk r (AreRecordsOut contents form candidates image name old new)
        long-taken = IfOk-weaker r _ _ (λ cut holds.
            let here : IsFoundLong image (Records candidates) name sectors None slot left =
            subst (λ (o : Option Fault). IsFoundLong image (Records candidates) name sectors o slot left) holds.0 found in
            inr (
              record {
                sectors = sectors;
                file = here.file;
                printed = subst (λ (s : Slot). Appends (contents old) (contents new) (long_lines form image s sectors)) here.entry
                    holds.2;
              },
              holds.1,
            ))

        -- or they weren't, or aren't surely all there are
        pub long-stopped : IfErr r (AreLinesStopped contents form (long_lines form image slot sectors) apart old new)
            → IfErr r (WhyNotOut contents form candidates image name old new)
        long-stopped = IfErr-weaker r _ _ (λ fault stop. inr (inr (
          sectors,
          apart,
          found.file,
          subst (λ (s : Slot). AreLinesStopped contents form (long_lines form image s sectors) apart old new fault) found.entry stop,
        )))

    module _ (disk : List ℕ) (same : disk ≡ disk_of image) where
      -- those of the disk's file were
      pub disk-taken : IsNoLongFile image (Records candidates) name
          → IfOk r (AreDiskRecordsTaken contents form candidates disk name old new)
          → IfOk r (AreRecordsOut contents form candidates image name old new)
      disk-taken none = IfOk-weaker r _ _ (λ cut taken. inl (
        none,
        subst (λ (d : List ℕ). AreDiskRecordsTaken contents form candidates d name old new cut) same taken,
      ))

      pub disk-stopped : IsNoLongFile image (Records candidates) name
          → IfErr r (WhyNoDiskRecords contents form candidates disk name old new)
          → IfErr r (WhyNotOut contents form candidates image name old new)
      disk-stopped none = IfErr-weaker r _ _ (λ fault why. inl (
        none,
        subst (λ (d : List ℕ). WhyNoDiskRecords contents form candidates d name old new fault) same why,
      ))
