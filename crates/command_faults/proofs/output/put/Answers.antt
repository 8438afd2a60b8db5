-- What the writer has of them is a beginning.
use Rattle.command_faults.proofs.Parts.{part-first}
use Rattle.command_faults.proofs.output.put.Goals as goal

pub returns-in-Err-clause-part : goal.returns-in-Err-clause-part
returns-in-Err-clause-part g c = part-first _ _ c.args.bytes.now c.in-Err.ensures.err
