-- What is said of an image in a plan: what may be lost, and the next command. Our own.
use Rattle.std.specs.Prelude.{◌≡◌, ◌≢◌, ◌⊎◌, ℕ, List, [], ◌∷◌, ◌++◌, Bool, None, Option, Some, codes, false, flat_map, length, true}
use Rattle.std.specs.Prelude.{◌&&◌, ◌||◌, if◌then◌else◌, nat_eq, nat_le}
use Rattle.std.specs.Io.KnownBytes.{Appends}
use Rattle.std.specs.List.{list_all}
use Rattle.command_faults.specs.declared.faults.CommandFault.{CommandFault}
use Rattle.command_faults.specs.declared.faults.CommandFault.TheVariants as faults
use Rattle.disk_changes.specs.Remedies.{IsRemedy}
use Rattle.disk_changes.specs.declared.remedies.Remedy.{Remedy}
use Rattle.disk_changes.specs.declared.remedies.Remedy.TheVariants as remedies
use Rattle.disk_changes.specs.declared.remedies.Way.{Way}
use Rattle.disk_changes.specs.declared.remedies.Way.TheVariants as ways
use Rattle.disk_layout.specs.declared.faults.Fault.{Fault}
use Rattle.disk_reports.specs.Plans.{IsPlanned, plan_text}
use Rattle.disk_reports.specs.declared.plans.PlanForm.{PlanForm}
use Rattle.disk_reports.specs.declared.plans.PlanForm.TheVariants as forms
use Rattle.disk_reports.specs.declared.plans.PlanVerdict.TheVariants.{Refused}
use Rattle.opened_files.specs.Rights.{standard_input}

-- a byte that stands for itself in a shell: a letter, a digit, or one of + , - . / @ _
abbrev pub is_plain : ℕ → Bool
is_plain b =
    (nat_le 43 b && nat_le b 57) || ((nat_le 64 b && nat_le b 90) || (nat_eq b 95 || (nat_le 97 b && nat_le b 122)))

-- a byte between single quotation marks: for such a mark the quotation ends, the mark stands after a backslash, and it begins again
abbrev pub quoted_char : ℕ → List ℕ
quoted_char b = if nat_eq b 39 then codes "'\\''" else b ∷ []

-- what stands before a name that begins with a hyphen, since it would be a flag
abbrev pub before_hyphen : List ℕ → List ℕ
before_hyphen [] = []
before_hyphen (b ∷ bs) = if nat_eq b 45 then codes "./" else []

-- a name as it is, or between quotation marks if a byte of it doesn't stand for itself
abbrev pub quoted_name : List ℕ → List ℕ
quoted_name name = if list_all is_plain name then name else codes "'" ++ (flat_map quoted_char name ++ codes "'")

-- the word that a shell reads as the name of this file
abbrev pub file_word : List ℕ → List ℕ
file_word name = before_hyphen name ++ quoted_name name

-- what stands for an image in a command: what it is called, or IMAGE for standard input, which no repair can take
abbrev pub IsCalled : (path name called : List ℕ) → Type 0
IsCalled path name called = (path ≢ standard_input → called ≡ name) × (path ≡ standard_input → called ≡ codes "IMAGE")

-- the words of a repair
abbrev pub repair_words : Way → List ℕ
repair_words ways.Plain = codes "ledger repair "
repair_words ways.Sides = codes "ledger repair --sides "
repair_words ways.Settled = codes "ledger repair --accept-loss "
repair_words ways.SidesSettled = codes "ledger repair --sides --accept-loss "
repair_words ways.Freeing = codes "ledger repair --free "
repair_words ways.FreeingSettled = codes "ledger repair --free --accept-loss "

-- what takes the files out of the image to a folder that is named after it
abbrev pub extract_words : List ℕ → List ℕ
extract_words word = (codes "ledger extract " ++ word) ++ ((codes " " ++ word) ++ codes "-files")

-- the command that can be made of the disk; nothing if nothing has to be done, or nothing can be
abbrev pub command_for : Remedy → (word : List ℕ) → List ℕ
command_for remedies.Nothing word = []
command_for (remedies.Strays left true) word = repair_words ways.Freeing ++ word
command_for (remedies.Strays left false) word = []
command_for (remedies.Repair way left) word = repair_words way ++ word
command_for (remedies.Rescue why) word = extract_words word

-- what a repair may lose
abbrev pub lost_by : Way → List ℕ
lost_by ways.Plain = []
lost_by ways.Sides = []
lost_by ways.Settled = codes "the end of a file"
lost_by ways.SidesSettled = codes "the end of a file"
lost_by ways.Freeing = codes "what sectors hold that no file owns"
lost_by ways.FreeingSettled = codes "the end of a file"

-- what may be lost by that command
abbrev pub lost_for : Remedy → List ℕ
lost_for remedies.Nothing = []
lost_for (remedies.Strays left true) = lost_by ways.Freeing
lost_for (remedies.Strays left false) = []
lost_for (remedies.Repair way left) = lost_by way
lost_for (remedies.Rescue why) = codes "what can't be read"

-- a file of this size has tracks of which `trim` takes 35, or error bytes that it leaves out
abbrev pub is_trimmed : ℕ → Bool
is_trimmed size = nat_eq size 175531 || (nat_eq size 196608 || nat_eq size 197376)

-- what may be done about an image of this size: `trim` makes one, or `check --explain` says which program does
abbrev pub sized_words : ℕ → (word : List ℕ) → List ℕ
sized_words size word =
    if is_trimmed size then (codes "ledger trim " ++ word) ++ ((codes " > " ++ word) ++ codes "-35.d64")
    else codes "ledger check --explain " ++ word

-- the same, if its size is known
abbrev pub size_words : Option ℕ → (word : List ℕ) → List ℕ
size_words None word = codes "ledger check --explain " ++ word
size_words (Some size) word = sized_words size word

-- what may be done about an image that is refused
abbrev pub command_against : CommandFault → Option ℕ → (word : List ℕ) → List ℕ
command_against faults.ImageSize size word = size_words size word
command_against faults.Log size word = (codes "ledger copy --log " ++ word) ++ ((codes "-log " ++ word) ++ codes "-new.d64")
command_against _ size word = []

-- what a path is called in this form: in a table and in JSON by its bytes, in a line as a terminal may show it
abbrev pub IsNameIn : PlanForm → (path name : List ℕ) → Type 0
IsNameIn forms.Lines path name = Unit {0}
IsNameIn form path name = name ≡ path

-- The plan of an image was printed: the command that it names is the one of what can be done for this very image.
pub record IsPlanOf {W : Type 0} (contents : W → Option (List ℕ)) (form : PlanForm) (path image : List ℕ) (old new : W)
    (found : Option Fault) : Type 0 where
  pub name : List ℕ
  pub named : IsNameIn form path name
  pub called : List ℕ
  pub stands : IsCalled path name called
  pub remedy : Remedy
  pub can : IsRemedy image remedy
  pub planned : IsPlanned contents form name image (lost_for remedy) (command_for remedy (file_word called)) old new found

-- a refusal of the image at this path was printed, with what may be done about it
pub record IsPlanRefusal {W : Type 0} (contents : W → Option (List ℕ)) (form : PlanForm) (path : List ℕ)
    (why : CommandFault) (old new : W) : Type 0 where
  pub name : List ℕ
  pub named : IsNameIn form path name
  pub called : List ℕ
  pub stands : IsCalled path name called
  pub size : Option ℕ
  pub printed : Appends (contents old) (contents new) (plan_text form name (Refused why) None [] [] (command_against why size (file_word called)))

-- why an image isn't planned: its size, memory, or the output
abbrev pub IsPlanFault : List ℕ → CommandFault → Type 0
IsPlanFault image faults.ImageSize = length image ≢ 174848
IsPlanFault image faults.NoMemory = Unit {0}
IsPlanFault image faults.File = Unit {0}
IsPlanFault image _ = ⊥
