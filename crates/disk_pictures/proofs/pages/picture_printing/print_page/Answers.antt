-- The head, the drawing, the legend, the rows and the end are the page.
use Rattle.std.proofs.Common.{List, ℕ, map, subst}
use Rattle.std.specs.Prelude.{Option}
use Rattle.std.specs.Io.KnownBytes.{Appends, Keeps}
use Rattle.std.proofs.KnownBytes.{Appends-kept, Appends-trans}
use Rattle.d64_image.specs.Images.{Sector}
use Rattle.disk_layout.specs.Layout.{Layout}
use Rattle.d64_image.proofs.Told.{at-ok}
use Rattle.disk_pictures.proofs.Printing.{four}
use Rattle.disk_pictures.specs.Drawings.{file_in}
use Rattle.disk_pictures.specs.Held.{drawn_in}
use Rattle.disk_pictures.specs.Html.{html_of}
use Rattle.disk_pictures.specs.Petscii.{petscii_of}
use Rattle.disk_pictures.specs.Pictures.{drawing_text, end_text, legend_text, page_text, picture_page, row_text, tracks}
use Rattle.disk_pictures.specs.Pictures.{title_text, told_text}
use Rattle.disk_pictures.specs.Texts.{numbered}
use Rattle.disk_pictures.specs.declared.verdicts.Verdict.{Verdict}
use Rattle.disk_pictures.proofs.pages.picture_printing.print_page.Goals as goal

all-printed : (a b c d t e f h i : Option (List ℕ)) (v : Verdict) (bytes : Sector) (l : Layout)
    → Appends a b (title_text html_of petscii_of bytes)
    → Appends b c (told_text html_of v bytes l) → Appends c d (drawing_text html_of v.found bytes l)
    → Appends d t tracks → Appends t e legend_text
    → Appends e f (numbered (row_text html_of petscii_of) 0 l.files) → Appends f h end_text → Keeps h i
    → Appends a i (picture_page v bytes l)
unfolding page_text
all-printed a b c d t e f h i v bytes l title told drawing marks legend rows end kept =
    Appends-kept a h i _
    (Appends-trans a b h _ _ title (Appends-trans b c h _ _ told (Appends-trans c d h _ _ drawing
    (four d t e f h _ _ _ _ marks legend rows end))))
    kept

pub returns-clause-ok : goal.returns-clause-ok
unfolding end_text legend_text tracks
returns-clause-ok g c =
    let d = c.args.drawing.now in
    let rows = subst (λ fs. Appends (g.W.Write.contents c.print_text-4.new.out) (g.W.Write.contents c.print_rows.new.out)
    (numbered (row_text html_of petscii_of) 0 (map file_in fs))) c.as_slice.ensures.value c.in_ok-print_rows.ensures.ok in
    at-ok c.flush.result (all-printed _ _ _ _ _ _ _ _ _ c.args.verdict d.map (drawn_in d)
    c.in_ok-print_text.ensures.ok
    c.in_ok-print_text-2.ensures.ok
    c.in_ok-print_drawing.ensures.ok c.in_ok-print_text-3.ensures.ok
    c.in_ok-print_text-4.ensures.ok rows c.in_ok-print_text-5.ensures.ok c.flush.ensures.kept)
