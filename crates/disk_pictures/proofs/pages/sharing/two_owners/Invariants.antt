-- The first two of the owners so far.
use Rattle.std.proofs.Common.{◌++◌, map, take}
use Rattle.disk_pictures.specs.Drawings.{file_in}
use Rattle.disk_pictures.specs.Held.{drawn_in}
use Rattle.disk_pictures.specs.Sentences.{owners_among, system_owners}
use Rattle.disk_pictures.specs.Sharing.{IsTwoOf}
use Rattle.disk_pictures.proofs.pages.sharing.two_owners.Given as goal

abbrev pub invariant-loop-number : goal.invariant-loop-number
invariant-loop-number l = IsTwoOf l.two
    (system_owners (drawn_in l.drawing) l.place ++ owners_among 0 (map file_in (take l.number l.files)) l.place)
