-- What comes of a change of an image over a file that is written and sought. Our own.
use Rattle.std.specs.Prelude.{◌≡◌, Err, List, None, Ok, Option, Result, Some, ℕ}
use Rattle.std.specs.Io.KnownBytes.{Appends}
use Rattle.command_faults.specs.declared.faults.CommandFault.TheVariants as faults
use Rattle.d64_image.specs.Memory.{disk_bytes}
use Rattle.disk_changes.specs.declared.changes.Changed.{Changed}
use Rattle.command_faults.specs.declared.faults.CommandFault.{CommandFault}
use Rattle.ledger_cli.specs.Making.{AreWrittenInPart, IsImageHanded, image_writes}
use Rattle.image_edits.specs.Changes.{IsShownEnd, as_change}
use Rattle.opened_files.specs.Ends.{EndsAs, JobEnd}
use Rattle.image_edits.specs.declared.effect.Effect.{Effect}
use Rattle.image_edits.specs.declared.effect.Effect.TheVariants.{Printed, Written}
use Rattle.line_text.specs.Handed.{AppendsPart}

module _ {F W : Type 0} (position : F → Option ℕ) (bytes contents : F → Option (List ℕ)) (told : W → Option (List ℕ))
  where
    -- A change of an image ended so. The image that comes of it was written, and its text printed; or it is refused, and
    -- nothing was done; or the file failed, or the output.
    abbrev pub IsChangeWritten : (Changed → Type 0) → (CommandFault → Type 0) → F → F → W → W → Result ℕ CommandFault → Type 0
    IsChangeWritten Is Refuses file after old new (Ok left) = (made : Changed) × Is made × (left ≡ made.left)
        × IsImageHanded position bytes contents (disk_bytes made.disk) file after
        × Appends (told old) (told new) made.text.items
    IsChangeWritten Is Refuses file after old new (Err faults.Device) = (made : Changed) × Is made
        × AreWrittenInPart position bytes contents file after (image_writes (disk_bytes made.disk)) × (new ≡ old)
    IsChangeWritten Is Refuses file after old new (Err faults.File) = (made : Changed) × Is made
        × IsImageHanded position bytes contents (disk_bytes made.disk) file after
        × AppendsPart (told old) (told new) made.text.items
    IsChangeWritten Is Refuses file after old new (Err why) = Refuses why × (after ≡ file) × (new ≡ old)

    -- and its job with it; or there is no file
    abbrev pub IsChangeMade : (Changed → Type 0) → (CommandFault → Type 0) → Option F → Option F → W → W → JobEnd → Type 0
    IsChangeMade Is Refuses None after old new end =
        (after ≡ None) × (new ≡ old) × (end ≡ Err faults.File)
    IsChangeMade Is Refuses (Some file) after old new end =
        (left : F) × (after ≡ Some left) × EndsAs as_change end (IsChangeWritten Is Refuses file left old new)

    -- or only what it would print was printed
    abbrev pub IsChangeJob : Effect → (Changed → Type 0) → (CommandFault → Type 0) → Option F → Option F → W → W → JobEnd → Type 0
    IsChangeJob Written Is Refuses file after old new end = IsChangeMade Is Refuses file after old new end
    IsChangeJob Printed Is Refuses file after old new end = (after ≡ file) × IsShownEnd told Is Refuses old new end
