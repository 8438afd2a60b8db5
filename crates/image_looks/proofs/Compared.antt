-- Two images that are compared.
use Rattle.std.proofs.Common.{◌≡◌, ◌∙◌, ◌++◌, [], ℕ, List, Option, ap, inr, subst}
use Rattle.command_faults.specs.declared.faults.CommandFault.TheVariants as faults
use Rattle.disk_layout.specs.declared.faults.Fault.{Fault}
use Rattle.disk_pictures.specs.ComparedOutcomes.{IsComparisonFault, IsComparisonPrinted}
use Rattle.disk_pictures.specs.Missing.{IsMissing}
use Rattle.image_looks.specs.Comparisons.{AreBothMissing}
use Rattle.line_text.specs.Named.{named}

-- the disks are those of the images
pub over-disks : (a b c d : List ℕ) (P : List ℕ → List ℕ → Type 0) → a ≡ c → b ≡ d → P a b → P c d
over-disks a b c d P first second holds = subst (λ (x : List ℕ). P x d) first (subst (λ (y : List ℕ). P a y) second holds)

-- the lines of one image, and then those of another
pub both-are : (before after none one two : List ℕ) → none ≡ []
    → ((name : List ℕ) × (missing : List ℕ) × IsMissing before missing × (one ≡ none ++ named name missing))
    → ((name : List ℕ) × (missing : List ℕ) × IsMissing after missing × (two ≡ one ++ named name missing))
    → AreBothMissing before after two
both-are before after none one two empty (name, missing, is, first) (other, more, too, second) = record {
  first_name = name;
  first = missing;
  is_first = is;
  second_name = other;
  second = more;
  is_second = too;
  are = second ∙ ap (λ (l : List ℕ). l ++ named other more) (first ∙ ap (λ (l : List ℕ). l ++ named name missing) empty);
}

-- what was printed could be printed, so that only the output may have failed
pub output-why : {W : Type 0} (contents : W → Option (List ℕ)) (before_path before after_path after : List ℕ) (old new : W)
    (found : Option Fault) → IsComparisonPrinted contents before_path before after_path after old new found
    → IsComparisonFault before after faults.File
output-why contents before_path before after_path after old new found is =
    inr (is.second.layout, is.second.verdict, is.is_second.judged)
