-- No sector of the track below the loop's byte is free.
use Rattle.std.proofs.Common.{◌*◌}
use Rattle.disk_layout.proofs.bam.Bam.first_on.Given as goal
use Rattle.disk_layout.proofs.lemmas.map.Picking.{NoneBelow}

abbrev pub invariant-loop-eighth : goal.invariant-loop-eighth
invariant-loop-eighth l = NoneBelow l.self.bytes l.track (8 * l.eighth)
