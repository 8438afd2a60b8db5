-- The rows of the entries so far were printed.
use Rattle.std.proofs.Common.{map, take}
use Rattle.disk_pictures.specs.ComparedOutcomes.{disk_in}
use Rattle.disk_pictures.specs.ComparedPages.{entry_row}
use Rattle.disk_pictures.specs.Drawings.{file_in}
use Rattle.disk_pictures.specs.Html.{html_of}
use Rattle.disk_pictures.specs.Petscii.{petscii_of}
use Rattle.disk_pictures.specs.Texts.{numbered}
use Rattle.std.specs.Io.KnownBytes.{Appends}
use Rattle.disk_pictures.proofs.comparison.changes.print_entries.Given as goal

abbrev pub invariant-loop-number : goal.invariant-loop-number
invariant-loop-number g l = Appends (g.W.Write.contents l.fn.out) (g.W.Write.contents l.out)
    (numbered (entry_row html_of petscii_of (disk_in l.before) (disk_in l.after)) 0 (map file_in (take l.number l.files)))
