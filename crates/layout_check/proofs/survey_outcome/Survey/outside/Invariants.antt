use Rattle.std.proofs.Common.{◌≤◌}
use Rattle.layout_check.proofs.lemmas.owners.Counting.{IsCounted}
use Rattle.layout_check.proofs.survey_outcome.Survey.outside.Given as goal

abbrev pub invariant-loop-index : goal.invariant-loop-index
invariant-loop-index l = record { counted : IsCounted l.self l.entry l.index l.count; few : l.count ≤ l.index }
