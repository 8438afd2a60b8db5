-- Whether the record is ended or not.
use Rattle.line_text.proofs.lemmas.columns.Ends.{comes-back}
use Rattle.line_text.proofs.columns.laws.columns_come_back.Goals as goal

pub returns : goal.returns
returns c = comes-back
