-- The ring's radius.
use Rattle.std.proofs.Common.{◌≡◌, ◌++◌, ℕ, ap}
use Rattle.std.specs.Prelude.{codes, decimal}
use Rattle.std.proofs.Output.{has_written_of_eq}
use Rattle.disk_pictures.specs.Pictures.{radius, white_head}
use Rattle.disk_pictures.proofs.pages.white_lines.WhiteHeadDisplay.fmt.Goals as goal

head : (t r : ℕ) → r ≡ radius t
    → codes "<circle r=\"" ++ (decimal r ++ codes "\" style=\"stroke-dasharray:") ≡ white_head t
unfolding white_head
head t r ring = ap (λ (n : ℕ). codes "<circle r=\"" ++ (decimal n ++ codes "\" style=\"stroke-dasharray:")) ring

pub returns-clause-writes : goal.returns-clause-writes
returns-clause-writes g c = λ plain done. has_written_of_eq _ _ _ _ _ (head _ _ c.radius.ensures)
    (c.write.ensures.writes plain done)
