-- The side sectors so far were printed.
use Rattle.std.proofs.Common.{take}
use Rattle.disk_pictures.specs.Texts.{numbered}
use Rattle.disk_pictures.specs.Drawings.{file_in}
use Rattle.disk_pictures.specs.Held.{drawn_in}
use Rattle.disk_pictures.specs.Html.{html_of}
use Rattle.disk_pictures.specs.Pictures.{own_side}
use Rattle.std.specs.Io.KnownBytes.{Appends}
use Rattle.disk_pictures.proofs.pages.picture_printing.print_sides.Given as goal

abbrev pub invariant-loop-index : goal.invariant-loop-index
invariant-loop-index g l = Appends (g.W.Write.contents l.fn.out) (g.W.Write.contents l.out)
    (numbered (own_side html_of (drawn_in l.drawing) l.number (file_in l.file)) 0 (take l.index l.sides))
