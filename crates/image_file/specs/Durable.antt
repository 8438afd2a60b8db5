-- What is written to a file, and what of it stays if the machine loses power. Our own.
use Rattle.std.specs.Prelude.{◌≡◌, ◌≤◌, ◌+◌, ℕ, List, None, Option, Some, Result, Ok, Err, length, take}
use Rattle.d64_image.specs.Offsets.{overwritten}

-- all that the file holds stays though the machine loses power
abbrev pub AllStays : {F : Type 0} → (held lasting : F → Option (List ℕ)) → F → Type 0
AllStays held lasting file = lasting file ≡ held file

-- If the file's bytes are known and reach so far, these stand in place of those from n on, and nothing else changed. If
-- they aren't known, they still aren't.
abbrev pub IsOverwritten : (old new : Option (List ℕ)) → ℕ → List ℕ → Type 0
IsOverwritten None new n bytes = new ≡ None
IsOverwritten (Some all) new n bytes = n + length bytes ≤ length all → new ≡ Some (overwritten all n bytes)

-- at an error a prefix of them stands there
abbrev pub WritesOver : {E : Type 0} → (old new : Option (List ℕ)) → ℕ → List ℕ → Result Unit E → Type 0
WritesOver old new n bytes (Ok _) = IsOverwritten old new n bytes
WritesOver old new n bytes (Err _) = (count : ℕ) × IsOverwritten old new n (take count bytes)
