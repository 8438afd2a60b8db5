-- The tracks below the loop's are as the blank image has them, and on the others no sector is free.
use Rattle.disk_layout.proofs.blank_map.blank_map.Given as goal
use Rattle.disk_layout.proofs.lemmas.blank.Freeing.{IsMadeTo}

abbrev pub invariant-loop-below : goal.invariant-loop-below
invariant-loop-below l = IsMadeTo l.map.bytes l.name l.fn.id l.blocks l.below
