-- What comes of an image, from its disk in memory.
use Rattle.std.proofs.Common.{◌≡◌, ℕ, List, Option, Result, ap, inl, inr, length, subst, sym, ◌∙◌}
use Rattle.std.specs.Prelude.{IfErr, IfOk}
use Rattle.std.proofs.lemmas.Result.{IfErr-weaker, IfOk-weaker}
use Rattle.d64_image.specs.Images.{Image}
use Rattle.d64_image.specs.Memory.{sectors_in}
use Rattle.d64_image.specs.declared.place.Place.{Place}
use Rattle.disk_layout.specs.declared.faults.Fault.{Fault}
use Rattle.disk_layout.specs.declared.slot.Slot.{Slot}
use Rattle.command_faults.specs.declared.faults.CommandFault.{CommandFault}
use Rattle.damaged_files.specs.reached.Directories.{IsReadSoFar}
use Rattle.damaged_files.specs.reached.Sizes.{disk_of}
use Rattle.file_rescues.specs.rescue.Folders.{AddsFiles, AddsPart, NewFile}
use Rattle.file_rescues.specs.rescue.Rescues.{AreChosen, IsExtractFault, IsExtracted, IsExtractedPart, IsMakeFault, IsRescue, all_files, first_fault, sectors_of}
use Rattle.file_rescues.specs.rescue.Sharing.{owned}
use Rattle.file_rescues.specs.declared.rescue.choices.Choice.{Choice}
use Rattle.file_rescues.specs.declared.rescue.rescuing.Rescued.{Rescued}

module _ {F : Type 0} (files : F → Option (List NewFile)) (choice : Choice) (image : List ℕ) (old new : F)
    (img : Image)
    (chain sectors chosen shown : List Place) (entries : List Slot) (all lent : List Rescued) (found : Option Fault)
    (size : length (disk_of image) ≡ 174848) (is : img ≡ sectors_in (disk_of image))
    (read : IsReadSoFar img chain entries found) (grown : sectors ≡ sectors_of choice img chain)
    (chosen-is : chosen ≡ sectors)
    (rescued : AreChosen choice image img chosen all) (shown-is : shown ≡ sectors) (lent-is : lent ≡ all)
  where
    rescue : IsRescue choice image sectors all found
    rescue = record {
      size = size;
      chain = chain;
      entries = entries;
      read = subst (λ (i : Image). IsReadSoFar i chain entries found) is read;
      sectors = grown ∙ ap (λ (i : Image). sectors_of choice i chain) is;
      rescued = subst (λ (ps : List Place). AreChosen choice image (sectors_in (disk_of image)) ps all) chosen-is
          (subst (λ (i : Image). AreChosen choice image i chosen all) is rescued);
    }

    -- the files are those of the image
    files-are : all_files image img shown lent ≡ all_files image (sectors_in (disk_of image)) sectors all
    files-are =
        ap (λ (fs : List Rescued). all_files image img shown fs) lent-is
        ∙ ap (λ (ps : List Place). all_files image img ps all) shown-is
        ∙ ap (λ (i : Image). all_files image i sectors all) is

    fault-is : first_fault image img (owned shown lent) 1 found lent
        ≡ first_fault image (sectors_in (disk_of image)) (owned sectors all) 1 found all
    fault-is =
        ap (λ (fs : List Rescued). first_fault image img (owned shown fs) 1 found fs) lent-is
        ∙ ap (λ (ps : List Place). first_fault image img (owned ps all) 1 found all) shown-is
        ∙ ap (λ (i : Image). first_fault image i (owned sectors all) 1 found all) is

    pub extracted : (r : Result (Option Fault) CommandFault)
        → IfOk r (λ fault. AddsFiles (files old) (files new) (all_files image img shown lent)
        × (fault ≡ first_fault image img (owned shown lent) 1 found lent)) → IfOk r (IsExtracted files choice image old new)
    extracted r = IfOk-weaker r _ _ (λ fault holds. record {
      directory = sectors;
      rescued = all;
      found = found;
      rescue = rescue;
      made = subst (AddsFiles (files old) (files new)) files-are holds.0;
      told = holds.1 ∙ fault-is;
    })

    part : AddsPart (files old) (files new) (all_files image img shown lent) → IsExtractedPart files choice image old new
    part added = record {
      directory = sectors;
      rescued = all;
      found = found;
      rescue = rescue;
      made = subst (AddsPart (files old) (files new)) files-are added;
    }

    pub not-extracted : (r : Result (Option Fault) CommandFault)
        → IfErr r (λ fault. IsMakeFault fault × AddsPart (files old) (files new) (all_files image img shown lent))
        → IfErr r (IsExtractFault files choice image old new)
    not-extracted r = IfErr-weaker r _ _ (λ fault holds. elim holds.0 [
      | inl file ↦ subst (IsExtractFault files choice image old new) (sym file) (size, part holds.1)
      | inr memory ↦ subst (IsExtractFault files choice image old new) (sym memory) (size, inr (part holds.1))
    ])
