-- One of the bytes so far differs, or none.
use Rattle.std.proofs.Common.{◌≡◌, ◌+◌}
use Rattle.disk_pictures.specs.Comparisons.{file_byte, is_other}
use Rattle.disk_pictures.specs.Drawings.{file_in}
use Rattle.disk_pictures.specs.Texts.{any_below}
use Rattle.disk_pictures.proofs.comparison.versions.Versions.is_changed_within.Given as goal

abbrev pub invariant-loop-index : goal.invariant-loop-index
invariant-loop-index l = l.found ≡ any_below l.index
    (λ j. is_other (file_byte l.self.before.now.sectors.now (file_in l.self.former.now) (l.start + j))
    (file_byte l.self.after.now.sectors.now (file_in l.self.file.now) (l.start + j)))
