-- The rows so far were printed.
use Rattle.std.proofs.Common.{map, take}
use Rattle.disk_pictures.specs.Texts.{numbered}
use Rattle.disk_pictures.specs.Drawings.{file_in}
use Rattle.disk_pictures.specs.Html.{html_of}
use Rattle.disk_pictures.specs.Petscii.{petscii_of}
use Rattle.disk_pictures.specs.Pictures.{row_text}
use Rattle.std.specs.Io.KnownBytes.{Appends}
use Rattle.disk_pictures.proofs.pages.picture_printing.print_rows.Given as goal

abbrev pub invariant-loop-number : goal.invariant-loop-number
invariant-loop-number g l = Appends (g.W.Write.contents l.fn.out) (g.W.Write.contents l.out)
    (numbered (row_text html_of petscii_of) 0 (map file_in (take l.number l.files)))
