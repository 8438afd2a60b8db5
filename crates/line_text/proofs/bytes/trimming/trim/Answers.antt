use Rattle.line_text.proofs.lemmas.bytes.Trims.{trim-is}
use Rattle.line_text.proofs.bytes.trimming.trim.Goals as goal

pub returns : goal.returns
returns c = trim-is c.args.bytes.now c.end_of.result c.end_of.ensures.high c.end_of.ensures.zeros c.end_of.ensures.last
