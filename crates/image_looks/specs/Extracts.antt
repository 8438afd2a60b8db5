-- What comes of taking all files out of an image. All of it is our own.
use Rattle.std.specs.Prelude.{◌≡◌, ◌⊎◌, ◌++◌, [], ⊤, List, ℕ, IsOk, MatchResult, None, Ok, Err, Option, Result, Some, codes, length, map}
use Rattle.std.specs.Io.KnownBytes.{Appends}
use Rattle.damaged_files.specs.cut.Told.{shortfall_text}
use Rattle.damaged_files.specs.reached.Sizes.{IsImageSize, disk_of}
use Rattle.damaged_files.specs.declared.cut.shortfalls.Shortfall.{Shortfall}
use Rattle.disk_layout.specs.declared.faults.Fault.{Fault}
use Rattle.disk_pictures.specs.Missing.{IsMisread}
use Rattle.file_rescues.specs.declared.rescue.mem_folder.MemFile.{MemFile}
use Rattle.file_rescues.specs.rescue.Folders.{NewFile}
use Rattle.file_rescues.specs.rescue.Memory.{file_in}
use Rattle.file_rescues.specs.rescue.Rescues.{IsExtractFault, IsExtracted}
use Rattle.file_rescues.specs.declared.rescue.choices.Choice.{Choice}
use Rattle.image_file.specs.Remains.{Remains}
use Rattle.image_file.specs.paths.Traces.{Traces}
use Rattle.image_looks.specs.NewFolders.{AreMadeAt}
use Rattle.image_looks.specs.Reports.{reported_end}
use Rattle.line_text.specs.Handed.{AppendsPart}
use Rattle.command_faults.specs.declared.faults.CommandFault.{CommandFault}
use Rattle.command_faults.specs.declared.faults.CommandFault.TheVariants as faults
use Rattle.opened_files.specs.Ends.{JobEnd}
use Rattle.opened_files.specs.Losses.{IsSeen, short_refusal}

-- why files that were all made aren't whole: their first fault, or that a file is cut short there
abbrev pub refusal_found : Option Fault → Option Shortfall → Option CommandFault
refusal_found None lack = short_refusal lack
refusal_found (Some fault) lack = Some (faults.Layout fault)

-- why they aren't all made and whole: that, or the fault for which they weren't made
abbrev pub refusal_of : Result (Option Fault) CommandFault → Option Shortfall → Option CommandFault
refusal_of (Ok found) lack = refusal_found found lack
refusal_of (Err fault) lack = Some fault

-- what is printed if they are: that, and what a file lacks
abbrev pub extracted_text : Option Shortfall → List ℕ
extracted_text None = codes "EXTRACTED\n"
extracted_text (Some lack) = codes "EXTRACTED\n" ++ (shortfall_text lack ++ codes "\n")

-- How it is reported whether the job is refused. If it isn't, this text is printed, or the output failed. If it was printed, the
-- job ends as these lines say
abbrev pub IsExtractTold : {W : Type 0} → (W → Option (List ℕ)) → Option CommandFault → (text errors : List ℕ) → W → W → JobEnd
    → Type 0
IsExtractTold contents (Some refusal) text errors old new end = (end ≡ Err refusal) × (new ≡ old)
IsExtractTold contents None text errors old new end =
    ((end ≡ reported_end None errors) × Appends (contents old) (contents new) text)
    ⊎ ((end ≡ Err faults.File) × AppendsPart (contents old) (contents new) text)

-- a folder wasn't made, for this reason
abbrev pub IsUnmade : CommandFault → Type 0
IsUnmade fault = (fault ≡ faults.File) ⊎ ((fault ≡ faults.PathExists) ⊎ (fault ≡ faults.NoMemory))

-- nothing was begun: there was no memory to see what an image lacks, or it has the size of none
abbrev pub IsUnseen : (image : List ℕ) → CommandFault → Type 0
IsUnseen image fault = (fault ≡ faults.NoMemory) ⊎ ((fault ≡ faults.ImageSize) × ¬ (IsImageSize (length image)))

-- The chosen files of the disk in the image were gathered, or not all for a fault. If they were, the folder was made with them
-- (`Made`), whatever is reported of them: what is seen of files that lack something, and which sectors of the image weren't read. Or it couldn't be
-- made, and nothing was printed. Or that couldn't be seen, and nothing was done.
abbrev pub IsExtractRun : {W : Type 0} → (Made : List MemFile → Type 0) → (Failed : Type 0) → (W → Option (List ℕ)) → Choice
    → (image : List ℕ) → W → W → JobEnd → Type 0
IsExtractRun Made Failed contents choice image old new end =
    ((fault : CommandFault) × IsUnseen image fault × (end ≡ Err fault) × (new ≡ old))
    ⊎ ((ended : Result (Option Fault) CommandFault) × (lack : Option Shortfall) × (errors : List ℕ) × (files : List MemFile)
    × MatchResult ended (IsExtracted {F = List NewFile} (λ all. Some all) choice image [] (map file_in files))
    (IsExtractFault {F = List NewFile} (λ all. Some all) choice image [] (map file_in files)) × IsSeen (disk_of image) lack
    × IsMisread image errors
    × ((IsExtractTold contents (refusal_of ended lack) (extracted_text lack ++ errors) errors old new end
    × (IsOk ended → Made files))
    ⊎ (IsOk ended × Failed × (fault : CommandFault) × (end ≡ Err fault) × IsUnmade fault × (new ≡ old))))

-- the files of an image were made so in a folder of a host
abbrev pub IsExtractedTo : {H F W : Type 0} → Remains F → Traces H F → (W → Option (List ℕ)) → H → Choice
    → (folder image : List ℕ) → W → W → JobEnd → Type 0
IsExtractedTo remains traces contents host choice folder image old new end =
    IsExtractRun (λ files. AreMadeAt remains traces host folder files) ⊤ contents choice image old new end
