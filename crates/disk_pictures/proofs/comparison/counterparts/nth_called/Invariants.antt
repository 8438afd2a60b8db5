-- What is looked for is among the entries from here on.
use Rattle.std.proofs.Common.{◌≡◌, drop, map}
use Rattle.std.specs.Prelude.{slice_get}
use Rattle.disk_pictures.specs.Comparisons.{called}
use Rattle.disk_pictures.specs.Drawings.{file_in}
use Rattle.disk_pictures.proofs.comparison.counterparts.nth_called.Given as goal

abbrev pub invariant-loop-file : goal.invariant-loop-file
invariant-loop-file l = slice_get (called l.name (map file_in l.files)) l.number
    ≡ slice_get (called l.name (map file_in (drop l.file-index l.files))) l.left
