-- A text that was printed, stored.
use Rattle.disk_changes.proofs.lemmas.lines.Numbered.{lines-all, lines-only, numbered-apart, numbered-greatest, stored-first}
use Rattle.disk_changes.proofs.laws.printed_records_are_stored.Goals as goal

pub returns-clause-lines : goal.returns-clause-lines
returns-clause-lines c = lines-all

pub returns-clause-only : goal.returns-clause-only
returns-clause-only c = lines-only

pub returns-clause-apart : goal.returns-clause-apart
returns-clause-apart c = λ rs. numbered-apart 1 rs

pub returns-clause-last : goal.returns-clause-last
returns-clause-last c = numbered-greatest

pub returns-clause-first : goal.returns-clause-first
returns-clause-first c = stored-first
