-- The lines of the entries so far were printed.
use Rattle.std.proofs.Common.{map, take}
use Rattle.std.specs.Io.KnownBytes.{Appends}
use Rattle.disk_pictures.specs.Drawings.{file_in}
use Rattle.disk_pictures.specs.Maps.{entry_line}
use Rattle.disk_pictures.specs.Texts.{numbered}
use Rattle.disk_pictures.proofs.map_printing.print_entries.Given as goal

abbrev pub invariant-loop-number : goal.invariant-loop-number
invariant-loop-number g l = Appends (g.W.Write.contents l.fn.out) (g.W.Write.contents l.out)
    (numbered (entry_line l.wide) 0 (map file_in (take l.number l.files)))
