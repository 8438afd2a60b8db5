-- The fault is the one beside the chain.
use Rattle.std.proofs.Common.{inl, refl}
use Rattle.file_rescues.proofs.long_bytes.long_end.Goals as goal

pub returns-in-Some-clause-err : goal.returns-in-Some-clause-err
returns-in-Some-clause-err c = inl (c.in-Some.fault, c.in-Some.is, refl)
