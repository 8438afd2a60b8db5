-- The blocks of the files so far were counted.
use Rattle.std.proofs.Common.{take}
use Rattle.file_rescues.proofs.lemmas.rescue.Counts.{AreCounted}
use Rattle.file_rescues.proofs.rescue.sharing.owners_of.Given as goal

abbrev pub invariant-loop-file : goal.invariant-loop-file
invariant-loop-file l = AreCounted l.directory (take l.file-index l.files) l.owners
