use Rattle.line_text.proofs.lemmas.bytes.Stored.{line-of, one-line, stored-back}
use Rattle.line_text.proofs.bytes.laws.lines_give_records.Goals as goal

pub returns-clause-line : goal.returns-clause-line
returns-clause-line c = line-of

pub returns-clause-one : goal.returns-clause-one
returns-clause-one c = one-line

pub returns-clause-padded : goal.returns-clause-padded
returns-clause-padded c = stored-back
