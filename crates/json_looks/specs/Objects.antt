-- Objects of JSON that are printed. What their members are called is our own.
use Rattle.std.specs.Prelude.{◌≡◌, ◌++◌, ⊤, ℕ, zero, suc, List, [], Option, Some, codes}
use Rattle.std.specs.Io.KnownBytes.{Appends}
use Rattle.command_faults.specs.declared.faults.CommandFault.{CommandFault}
use Rattle.command_faults.specs.declared.faults.CommandFault.TheVariants as faults
use Rattle.json.specs.Lex.{tokens}
use Rattle.json.specs.Print.{print}
use Rattle.serde_json.specs.Data.{Data, member, no_members, number, object, string, unsigned}
use Rattle.serde_json.specs.Read.{read}

-- a number
abbrev pub count : ℕ → Data
count n = number (unsigned n)

-- what these are for 1, 2 and so on up to n, one after another
unfoldable pub up_to : ℕ → (ℕ → List Data) → List Data
up_to zero each = []
up_to (suc n) each = up_to n each ++ each (suc n)

-- an object was printed in a line: JSON that reads back as this object, without blanks or line ends between its parts
pub record IsObjectPrinted {W : Type 0} (contents : W → Option (List ℕ)) (shown : Data) (old new : W) : Type 0 where
  pub text : List ℕ
  pub reads_back : read text ≡ Some shown
  pub compact : text ≡ print (tokens text)
  pub printed : Appends (contents old) (contents new) (text ++ codes "\n")

-- why it isn't: memory, or the output
abbrev pub IsObjectFault : CommandFault → Type 0
IsObjectFault faults.File = ⊤
IsObjectFault faults.NoMemory = ⊤
IsObjectFault _ = ⊥

-- an image that is refused, and why
abbrev pub refused_data : (name why : List ℕ) → Data
refused_data name why = object (member (codes "name") (string name) (member (codes "refused") (string why) no_members))
