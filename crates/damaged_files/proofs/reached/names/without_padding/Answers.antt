-- The bytes before the padding.
use Rattle.damaged_files.proofs.lemmas.reached.Paddings.{unpadded-is}
use Rattle.damaged_files.proofs.reached.names.without_padding.Goals as goal

pub returns-clause-name : goal.returns-clause-name
returns-clause-name c = unpadded-is c.args.bytes.now c.end_of.result c.end_of.ensures.high c.end_of.ensures.padding
    c.end_of.ensures.last
