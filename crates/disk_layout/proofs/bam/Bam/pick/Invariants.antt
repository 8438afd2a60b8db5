-- No sector nearer to track 18 than the loop's distance is free.
use Rattle.disk_layout.proofs.bam.Bam.pick.Given as goal
use Rattle.disk_layout.proofs.lemmas.map.Picking.{NoneNearer}

abbrev pub invariant-loop-distance : goal.invariant-loop-distance
invariant-loop-distance l = NoneNearer l.self.bytes l.distance
