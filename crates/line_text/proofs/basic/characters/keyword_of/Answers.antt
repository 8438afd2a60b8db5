-- The table's texts are the keywords.
use Rattle.std.proofs.Common.{refl}
use Rattle.line_text.proofs.lemmas.basic.Tables.{keyword-at}
use Rattle.line_text.proofs.basic.characters.keyword_of.Goals as goal

pub returns : goal.returns
returns c = keyword-at c.all_keywords.result.now _ c.from.result c.args.byte c.from.ensures c.all_keywords.ensures refl
