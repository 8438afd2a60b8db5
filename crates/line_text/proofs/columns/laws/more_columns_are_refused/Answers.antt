-- The text has a quotation mark.
use Rattle.line_text.proofs.lemmas.columns.Refused.{more-refused}
use Rattle.line_text.proofs.columns.laws.more_columns_are_refused.Goals as goal

pub returns : goal.returns
returns c = more-refused
