-- What is printed of an image in a plan: what a check finds, the files that are hurt, what may be lost, and the next command. Our own.
use Rattle.std.specs.Prelude.{◌≡◌, ◌≢◌, ◌⊎◌, ℕ, List, [], ◌∷◌, ◌++◌, None, Option, Some, codes, flat_map, length}
use Rattle.std.specs.Io.KnownBytes.{Appends}
use Rattle.d64_image.specs.Images.{Image}
use Rattle.d64_image.specs.Memory.{sectors_in}
use Rattle.damaged_files.specs.cut.Told.{IsShortfallOf, shortfall_text}
use Rattle.damaged_files.specs.declared.cut.shortfalls.Shortfall.{Shortfall}
use Rattle.damaged_files.specs.declared.cut.shortfalls.Shortfall.TheVariants as lacks
use Rattle.disk_layout.specs.Clean.{IsVerdict}
use Rattle.disk_layout.specs.Texts.{fault_text}
use Rattle.disk_layout.specs.declared.faults.Fault.{Fault}
use Rattle.disk_layout.specs.declared.faults.Fault.TheVariants as faults
use Rattle.disk_layout.specs.declared.slot.Slot.{Slot}
use Rattle.disk_reports.specs.AllFaults.{spaced_name}
use Rattle.disk_reports.specs.Json.{json_string}
use Rattle.disk_reports.specs.Objects.{end_text, files_text, head_text}
use Rattle.disk_reports.specs.Outcomes.{AreFound}
use Rattle.disk_reports.specs.Rows.{field, field_char, lack_cells}
use Rattle.line_text.specs.bytes.Texts.{text_of}
use Rattle.damaged_files.specs.reached.Names.{name_of}
use Rattle.command_faults.specs.Faults.{command_text}
use Rattle.disk_reports.specs.declared.plans.PlanForm.{PlanForm}
use Rattle.disk_reports.specs.declared.plans.PlanForm.TheVariants as forms
use Rattle.disk_reports.specs.declared.plans.PlanVerdict.{PlanVerdict}
use Rattle.disk_reports.specs.declared.plans.PlanVerdict.TheVariants as verdicts

-- what stands before the first image
abbrev pub plan_heading : PlanForm → List ℕ
plan_heading forms.Csv = codes "name,verdict,short,fewer,files,lost,next\n"
plan_heading _ = []

-- what a check finds
abbrev pub found_word : Option Fault → List ℕ
found_word None = codes "OK"
found_word (Some fault) = fault_text fault

-- the same, or why an image is refused
abbrev pub verdict_word : PlanVerdict → List ℕ
verdict_word (verdicts.Found found) = found_word found
verdict_word (verdicts.Refused why) = command_text why

-- what the files lack, after the verdict of a line
abbrev pub lack_part : Option Shortfall → List ℕ
lack_part None = []
lack_part (Some lack) = codes ", " ++ shortfall_text lack

-- a part of a line, if there is something of it
abbrev pub part : (label text : List ℕ) → List ℕ
part label [] = []
part label (b ∷ bs) = label ++ (b ∷ bs)

-- the name of an image, and what a check finds
abbrev pub line_head : List ℕ → PlanVerdict → Option Shortfall → List ℕ
line_head name verdict lack = name ++ (codes ": " ++ (verdict_word verdict ++ lack_part lack))

-- what may be lost, and what comes next
abbrev pub line_tail : (lost next : List ℕ) → List ℕ
line_tail lost next = part (codes "; may be lost: ") lost ++ (part (codes "; next: ") next ++ codes "\n")

-- the line of an image: old.d64: OK, SHORT 17/3 "LETTER"; may be lost: the end of a file; next: ledger repair --accept-loss old.d64
abbrev pub plan_line : List ℕ → PlanVerdict → Option Shortfall → List Slot → (lost next : List ℕ) → List ℕ
plan_line name verdict lack files lost next = line_head name verdict lack ++ (flat_map spaced_name files ++ line_tail lost next)

-- a string, or null if there is nothing
abbrev pub string_or_null : List ℕ → List ℕ
string_or_null [] = codes "null"
string_or_null (b ∷ bs) = json_string (b ∷ bs)

-- an object up to the files
abbrev pub object_head : List ℕ → PlanVerdict → Option Shortfall → List ℕ
object_head name verdict lack = head_text name ++ ((codes ",\"verdict\":\"" ++ (verdict_word verdict ++ codes "\"")) ++ end_text lack)

-- what may be lost, and what comes next
abbrev pub object_tail : (lost next : List ℕ) → List ℕ
object_tail lost next = (codes ",\"lost\":" ++ string_or_null lost) ++ ((codes ",\"next\":" ++ string_or_null next) ++ codes "}\n")

-- the object of an image
abbrev pub plan_object : List ℕ → PlanVerdict → Option Shortfall → List Slot → (lost next : List ℕ) → List ℕ
plan_object name verdict lack files lost next = object_head name verdict lack ++ (files_text files ++ object_tail lost next)

-- the name of a file in a field
abbrev pub name_cell : Slot → List ℕ
name_cell s = codes "\"\"" ++ (flat_map field_char (text_of (name_of s)) ++ codes "\"\"")

-- and of one file more
abbrev pub next_cell : Slot → List ℕ
next_cell s = codes " " ++ name_cell s

-- the names of files
abbrev pub name_cells : List Slot → List ℕ
name_cells [] = []
name_cells (s ∷ ss) = name_cell s ++ flat_map next_cell ss

-- a row up to the files
abbrev pub row_head : List ℕ → PlanVerdict → Option Shortfall → List ℕ
row_head name verdict lack = field name ++ (codes "," ++ (verdict_word verdict ++ (codes "," ++ (lack_cells lack ++ codes ",\""))))

-- what may be lost, and what comes next
abbrev pub row_tail : (lost next : List ℕ) → List ℕ
row_tail lost next = (codes "\"," ++ field lost) ++ ((codes "," ++ field next) ++ codes "\n")

-- the row of an image
abbrev pub plan_row : List ℕ → PlanVerdict → Option Shortfall → List Slot → (lost next : List ℕ) → List ℕ
plan_row name verdict lack files lost next = row_head name verdict lack ++ (name_cells files ++ row_tail lost next)

-- what is printed of an image in a form
abbrev pub plan_text : PlanForm → List ℕ → PlanVerdict → Option Shortfall → List Slot → (lost next : List ℕ) → List ℕ
plan_text forms.Lines name verdict lack files lost next = plan_line name verdict lack files lost next
plan_text forms.Json name verdict lack files lost next = plan_object name verdict lack files lost next
plan_text forms.Csv name verdict lack files lost next = plan_row name verdict lack files lost next

-- the sector where a file ends that lacks something, as a fault that concerns the files that have it
abbrev pub end_of : Option Shortfall → Option Fault
end_of None = None
end_of (Some (lacks.Short p)) = Some (faults.MapWrong p)
end_of (Some (lacks.Fewer p)) = Some (faults.MapWrong p)

-- the files that are hurt: those that the fault concerns, or if it concerns none, the one that lacks something
abbrev pub AreHurt : Image → Option Fault → Option Shortfall → List Slot → Type 0
AreHurt img found lack files =
    (AreFound img found files × (files ≢ []))
    ⊎ (AreFound img found [] × AreFound img (end_of lack) files)

-- The plan of an image was printed on an output that held `old` and holds `new`: by what a check finds, what its files lack, those
-- that are hurt, and what was handed in of what may be lost and what comes next.
pub record IsPlanned {W : Type 0} (contents : W → Option (List ℕ)) (form : PlanForm) (name image lost next : List ℕ)
    (old new : W) (found : Option Fault) : Type 0 where
  pub size : length image ≡ 174848
  pub verdict : IsVerdict (sectors_in image) found
  pub lack : Option Shortfall
  pub lacks : IsShortfallOf (sectors_in image) lack
  pub files : List Slot
  pub hurt : AreHurt (sectors_in image) found lack files
  pub printed : Appends (contents old) (contents new) (plan_text form name (verdicts.Found found) lack files lost next)
