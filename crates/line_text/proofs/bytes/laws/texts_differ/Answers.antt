use Rattle.line_text.proofs.lemmas.bytes.Texts.{one-text}
use Rattle.line_text.proofs.bytes.laws.texts_differ.Goals as goal

pub returns : goal.returns
returns c = λ xs ys _ _ same. one-text xs ys same
