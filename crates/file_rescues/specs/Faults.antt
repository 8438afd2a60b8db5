-- What is reported of a job that isn't done. Our own.
use Rattle.std.specs.Prelude.{◌≡◌, ℕ, Bool, Err, None, Ok, Option, Result, Some, false, true}
use Rattle.d64_image.specs.Images.{Image}
use Rattle.d64_image.specs.declared.place.Place.{Place}
use Rattle.damaged_files.specs.cut.Told.{IsToldOfDisk}
use Rattle.disk_layout.specs.declared.faults.Fault.{Fault}
use Rattle.command_faults.specs.declared.faults.CommandFault.{CommandFault}
use Rattle.command_faults.specs.declared.faults.CommandFault.TheVariants as faults

-- how the printing of a file ends that is the used entry of this number, and has this fault, or none: with the place where
-- it is cut short, if it is, or with its fault
abbrev pub IsEnded : Image → (number : ℕ) → Option Fault → Result (Option Place) CommandFault → Type 0
IsEnded img number None (Ok cut) = IsToldOfDisk img (Some number) cut
IsEnded img number None (Err _) = ⊥
IsEnded img number (Some fault) result = result ≡ Err (faults.Layout fault)

-- why there is no file, in a directory that ends early with this fault, or doesn't
abbrev pub keep_none : Option Fault → CommandFault
keep_none None = faults.NoFile
keep_none (Some fault) = faults.Layout fault

-- how the printing of a file ends; without a place, at this one, or because it hasn't the form in which it was printed
abbrev pub end_or_past : Result (Option Place) CommandFault → Option Place → Bool → Result (Option Place) CommandFault
end_or_past (Ok None) past true = Ok past
end_or_past (Ok None) past false = Err faults.NoProgram
end_or_past (Ok (Some place)) past has_form = Ok (Some place)
end_or_past (Err fault) past has_form = Err fault
