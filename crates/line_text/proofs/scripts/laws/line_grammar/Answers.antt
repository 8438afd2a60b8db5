-- The reader of lines is their grammar.
use Rattle.line_text.proofs.lemmas.scripts.Grammar.{line_found, line_spells}
use Rattle.line_text.proofs.scripts.laws.line_grammar.Goals as goal

pub returns-clause-found : goal.returns-clause-found
returns-clause-found c = line_found

pub returns-clause-spelled : goal.returns-clause-spelled
returns-clause-spelled c = line_spells
