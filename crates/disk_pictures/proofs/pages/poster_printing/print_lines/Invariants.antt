-- The lines so far were printed.
use Rattle.std.proofs.Common.{length, map, take}
use Rattle.disk_pictures.specs.Texts.{numbered}
use Rattle.disk_pictures.specs.Drawings.{file_in}
use Rattle.disk_pictures.specs.Html.{html_of}
use Rattle.disk_pictures.specs.Petscii.{petscii_of}
use Rattle.disk_pictures.specs.Posters.{poster_line}
use Rattle.std.specs.Io.KnownBytes.{Appends}
use Rattle.disk_pictures.proofs.pages.poster_printing.print_lines.Given as goal

abbrev pub invariant-loop-number : goal.invariant-loop-number
invariant-loop-number g l = Appends (g.W.Write.contents l.fn.out) (g.W.Write.contents l.out)
    (numbered (poster_line html_of petscii_of (length l.files)) 0 (map file_in (take l.number l.files)))
