-- Files that go on past track 35, and what comes of their bytes.
use Rattle.std.proofs.Common.{◌≡◌, ◌⊎◌, ◌-◌, ◌∙◌, ℕ, List, None, Option, Result, Some, ap, inl, inr, length, refl, subst}
use Rattle.std.proofs.lemmas.Result.{IfErr-weaker, IfOk-weaker, on_err_weaker}
use Rattle.std.specs.Io.KnownBytes.{Appends}
use Rattle.std.specs.List.{AllByRecursion}
use Rattle.std.specs.Prelude.{IfErr, IfOk, OnErr, slice_get}
use Rattle.command_faults.specs.Outputs.{HandsPart}
use Rattle.command_faults.specs.declared.faults.CommandFault.{CommandFault}
use Rattle.d64_image.specs.Images.{Image}
use Rattle.d64_image.specs.Memory.{sectors_in}
use Rattle.d64_image.specs.declared.place.Place.{Place}
use Rattle.damaged_files.specs.reached.Sizes.{disk_of}
use Rattle.disk_layout.specs.declared.faults.Fault.{Fault}
use Rattle.disk_layout.specs.declared.slot.Slot.{Slot}
use Rattle.file_rescues.specs.Forms.{HasForm, file_as}
use Rattle.file_rescues.specs.Found.{IsHad, apart_from_chain}
use Rattle.file_rescues.specs.Long.{IsFoundLong, IsNoLongFile, IsShortFile, long_chain}
use Rattle.file_rescues.specs.Printed.{AreBytesTaken, AreDiskBytesTaken, IsBytesFault, IsBytesPart, IsDiskBytesFault, IsDiskBytesPart, IsLongStop, past_left}
use Rattle.file_rescues.specs.declared.finding.Candidates.{Candidates}
use Rattle.file_rescues.specs.declared.finding.Kind.{Kind}
use Rattle.file_rescues.specs.declared.finding.Kind.TheVariants.{Any}
use Rattle.file_rescues.specs.declared.forms.FileForm.{FileForm}
use Rattle.long_chains.specs.Chains.{data_of}
use Rattle.long_chains.specs.Sectors.{HasSector}

-- the file that was found doesn't go on past track 35
pub found-short : (image : List ℕ) (kind : Kind) (name : List ℕ) (img : Image) (n : ℕ) (s : Slot) (blocks : List Place)
    (last : ℕ) (found broken : Option Fault) → img ≡ sectors_in (disk_of image)
    → (had : IsHad img kind name n s blocks last found) → broken ≡ had.broken → long_chain image s broken ≡ None
    → IsShortFile image kind name
found-short image kind name img n s blocks last found broken same had is none =
    let (here, its) = subst (λ (i : Image). (h : IsHad i kind name n s blocks last found) × (broken ≡ h.broken)) same (had, is) in
    record {
      number = n;
      slot = s;
      blocks = blocks;
      last = last;
      found = found;
      had = here;
      chain = subst (λ (o : Option Fault). long_chain image s o ≡ None) its none;
    }

-- or it does
pub found-long : (image : List ℕ) (kind : Kind) (name : List ℕ) (img : Image) (n : ℕ) (s : Slot) (blocks : List Place)
    (last : ℕ) (found broken apart : Option Fault) (left : Option Place) (sectors : List ℕ)
    → length (disk_of image) ≡ 174848 → img ≡ sectors_in (disk_of image)
    → (had : IsHad img kind name n s blocks last found) → broken ≡ had.broken
    → apart ≡ apart_from_chain s blocks had.ended had.all → long_chain image s broken ≡ Some sectors
    → left ≡ slice_get blocks (length blocks - 1) → AllByRecursion (HasSector image) sectors
    → IsFoundLong image kind name sectors apart s left
found-long image kind name img n s blocks last found broken apart left sectors size same had is why long leaves inside =
    let (here, its, others) = subst (λ (i : Image). (h : IsHad i kind name n s blocks last found) × (broken ≡ h.broken)
    × (apart ≡ apart_from_chain s blocks h.ended h.all)) same (had, is, why) in
    record {
      file = record {
        size = size;
        number = n;
        slot = s;
        blocks = blocks;
        last = last;
        found = found;
        had = here;
        chain = subst (λ (o : Option Fault). long_chain image s o ≡ Some sectors) its long;
        fault_is = others;
      };
      entry = refl;
      left_is = leaves;
      inside = inside;
    }

module _ {W : Type 0} (contents : W → Option (List ℕ)) (form : FileForm) (candidates : Candidates) (image name : List ℕ)
    (old new : W) (r : Result (Option Place) CommandFault)
  where
    module _ (sectors : List ℕ) (apart : Option Fault) (slot : Slot) (left : Option Place)
        (found : IsFoundLong image (Any candidates) name sectors apart slot left)
      where
        -- its bytes were printed
        pub long-taken : IfOk r (λ cut. (apart ≡ None)
            × Appends (contents old) (contents new) (file_as form (data_of image sectors))
            × (cut ≡ past_left form (data_of image sectors) left) × HasForm form (data_of image sectors))
            → IfOk r (AreBytesTaken contents form candidates image name old new)
        long-taken = IfOk-weaker r _ _ (λ cut holds.
            let here : IsFoundLong image (Any candidates) name sectors None slot left =
            subst (λ (o : Option Fault). IsFoundLong image (Any candidates) name sectors o slot left) holds.0 found in
            inr (record {
              sectors = sectors;
              file = here.file;
              printed = holds.1;
              cut_is = holds.2 ∙ ap (past_left form (data_of image sectors)) here.left_is;
              has_form = holds.3;
            }))

        -- or they weren't, or aren't all there is
        pub long-stopped : IfErr r (IsLongStop contents form (data_of image sectors) apart old new)
            → IfErr r (IsBytesFault contents form candidates image name old new)
        long-stopped = IfErr-weaker r _ _ (λ fault stop. inr (inr (sectors, apart, found.file, stop)))

        pub long-part : OnErr r ((new ≡ old)
            ⊎ HandsPart (contents old) (contents new) (file_as form (data_of image sectors)))
            → OnErr r (IsBytesPart contents form candidates image name old new)
        long-part = on_err_weaker r (λ part. elim part [
          | inl same ↦ inr (inl same)
          | inr hands ↦ inr (inr (sectors, apart, found.file, hands))
        ])

    module _ (disk : List ℕ) (same : disk ≡ disk_of image) where
      -- those of the disk's file were
      pub disk-taken : IsNoLongFile image (Any candidates) name
          → IfOk r (AreDiskBytesTaken contents form candidates disk name old new)
          → IfOk r (AreBytesTaken contents form candidates image name old new)
      disk-taken none = IfOk-weaker r _ _ (λ cut taken. inl (
        none,
        subst (λ (d : List ℕ). AreDiskBytesTaken contents form candidates d name old new cut) same taken,
      ))

      pub disk-stopped : IsNoLongFile image (Any candidates) name
          → IfErr r (IsDiskBytesFault contents form candidates disk name old new)
          → IfErr r (IsBytesFault contents form candidates image name old new)
      disk-stopped none = IfErr-weaker r _ _ (λ fault why. inl (
        none,
        subst (λ (d : List ℕ). IsDiskBytesFault contents form candidates d name old new fault) same why,
      ))

      pub disk-part : OnErr r (IsDiskBytesPart contents form candidates disk name old new)
          → OnErr r (IsBytesPart contents form candidates image name old new)
      disk-part = on_err_weaker r (λ part. inl
          (subst (λ (d : List ℕ). IsDiskBytesPart contents form candidates d name old new) same part))
