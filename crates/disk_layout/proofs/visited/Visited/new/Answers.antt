-- A table of 683 marks, none of which is set.
use Rattle.disk_layout.proofs.lemmas.lists.Marks.{none_marked, none_counted}
use Rattle.d64_image.specs.Places.{index_of}
use Rattle.disk_layout.specs.Visited.{room}
use Rattle.disk_layout.proofs.visited.Visited.new.Goals as goal

pub returns-clause-empty : goal.returns-clause-empty
returns-clause-empty c p = none_marked 683 (index_of p)

pub returns-clause-room : goal.returns-clause-room
unfolding room
returns-clause-room c = none_counted 683
