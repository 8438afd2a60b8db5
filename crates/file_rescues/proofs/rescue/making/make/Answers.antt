-- The folder failed, and a beginning of the file may be there.
use Rattle.std.proofs.Common.{subst, sym}
use Rattle.file_rescues.proofs.lemmas.rescue.Made.{two-words}
use Rattle.file_rescues.specs.rescue.Rescues.{IsMakeFault}
use Rattle.file_rescues.proofs.rescue.making.make.Goals as goal

pub returns-in-Err-clause-err : goal.returns-in-Err-clause-err
returns-in-Err-clause-err g c = (subst IsMakeFault (sym c.of_io.ensures) (two-words _), c.in-Err.ensures.part)
