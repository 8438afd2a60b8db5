-- Each part of a name is safe.
use Rattle.line_text.proofs.lemmas.petscii.Names.{is-safe}
use Rattle.line_text.proofs.petscii.name_laws.names_are_safe.Goals as goal

pub returns : goal.returns
returns c = λ n a s low short. is-safe n a s low short
