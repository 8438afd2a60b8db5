-- An empty table tells of no record.
use Rattle.std.proofs.Common.{ℕ, List, ap}
use Rattle.std.specs.Prelude.{slice_index}
use Rattle.disk_changes.proofs.lines.last_lines.LastLines.none.Goals as goal

pub returns-in-Ok-clause-ok : goal.returns-in-Ok-clause-ok
returns-in-Ok-clause-ok c = λ n le. ap (λ (xs : List ℕ). slice_index xs n) c.in-Ok.ensures.items
