-- What is looked for is among the entries from here on.
use Rattle.std.proofs.Common.{◌≡◌, drop, map}
use Rattle.std.specs.Prelude.{slice_get}
use Rattle.disk_pictures.specs.Drawings.{file_in}
use Rattle.disk_pictures.specs.PastErrors.{having}
use Rattle.disk_pictures.proofs.views.past_errors.nth_with.Given as goal

abbrev pub invariant-loop-file : goal.invariant-loop-file
invariant-loop-file l = slice_get (having l.image l.number (map file_in l.files)) l.nth
    ≡ slice_get (having l.image l.number (map file_in (drop l.file-index l.files))) l.left
