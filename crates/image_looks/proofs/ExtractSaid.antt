-- Files that were gathered of an image.
use Rattle.std.proofs.Common.{◌≡◌, [], List, Option, Some, Result, Ok, Err, ap, inl, inr, subst}
use Rattle.std.specs.Prelude.{MatchResult, ℕ}
use Rattle.command_faults.specs.declared.faults.CommandFault.{CommandFault}
use Rattle.command_faults.specs.declared.faults.CommandFault.TheVariants as faults
use Rattle.disk_layout.specs.declared.faults.Fault.{Fault}
use Rattle.file_rescues.specs.rescue.Folders.{NewFile}
use Rattle.file_rescues.specs.rescue.Rescues.{IsExtractFault, IsExtracted, IsExtractedPart}
use Rattle.file_rescues.specs.declared.rescue.choices.Choice.{Choice}
use Rattle.image_file.specs.Remains.{Remains}
use Rattle.image_file.specs.paths.Traces.{Traces}
use Rattle.image_looks.specs.Extracts.{IsExtractedTo}
use Rattle.opened_files.specs.Ends.{JobEnd}

-- a folder that is known by its files alone
abbrev itself : List NewFile → Option (List NewFile)
itself files = Some files

module _ {F : Type 0} (of : F → List NewFile) (choice : Choice) (image : List ℕ) (folder left : F) where
  abbrev known : F → Option (List NewFile)
  known f = Some (of f)

  part-said : IsExtractedPart known choice image folder left → IsExtractedPart itself choice image (of folder) (of left)
  part-said part = record {
    directory = part.directory;
    rescued = part.rescued;
    found = part.found;
    rescue = part.rescue;
    made = part.made;
  }

  made-said : (ended : Result (Option Fault) CommandFault)
      → MatchResult ended (IsExtracted known choice image folder left) (IsExtractFault known choice image folder left)
      → MatchResult ended (IsExtracted itself choice image (of folder) (of left))
      (IsExtractFault itself choice image (of folder) (of left))
  made-said (Ok found) made = record {
    directory = made.directory;
    rescued = made.rescued;
    found = made.found;
    rescue = made.rescue;
    made = made.made;
    told = made.told;
  }
  made-said (Err faults.ImageSize) (size, same) = (size, ap of same)
  made-said (Err faults.NoMemory) (size, inl same) = (size, inl (ap of same))
  made-said (Err faults.NoMemory) (size, inr part) = (size, inr (part-said part))
  made-said (Err faults.File) (size, part) = (size, part-said part)
  made-said (Err _) none = none

  -- what is so of what gathers files is so of the files, if there were none at first
  pub gathered : (ended : Result (Option Fault) CommandFault) → of folder ≡ []
      → MatchResult ended (IsExtracted known choice image folder left) (IsExtractFault known choice image folder left)
      → MatchResult ended (IsExtracted itself choice image [] (of left)) (IsExtractFault itself choice image [] (of left))
  gathered ended none is = subst (λ (files : List NewFile). MatchResult ended
      (IsExtracted itself choice image files (of left)) (IsExtractFault itself choice image files (of left))) none
      (made-said ended is)

-- what was made at a place of a host was made at its path
pub at-path : {H F W : Type 0} (remains : Remains F) (traces : Traces H F) (contents : W → Option (List ℕ)) (at host : H)
    (choice : Choice) (path folder image : List ℕ) (old new : W) (end : JobEnd) → at ≡ host → path ≡ folder
    → IsExtractedTo remains traces contents at choice path image old new end
    → IsExtractedTo remains traces contents host choice folder image old new end
at-path {H} remains traces contents at host choice path folder image old new end is to made =
    subst (λ (h : H). IsExtractedTo remains traces contents h choice folder image old new end) is
    (subst (λ (p : List ℕ). IsExtractedTo remains traces contents at choice p image old new end) to made)
