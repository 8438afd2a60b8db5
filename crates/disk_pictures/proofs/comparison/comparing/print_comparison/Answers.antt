-- The head, the drawing, the marks, the legend, the rows and the end are the page.
use Rattle.std.proofs.Common.{List, ℕ}
use Rattle.std.specs.Prelude.{Option}
use Rattle.std.specs.Io.KnownBytes.{Appends, Keeps}
use Rattle.std.proofs.KnownBytes.{Appends-kept, Appends-trans}
use Rattle.d64_image.proofs.Told.{at-ok}
use Rattle.disk_pictures.proofs.Printing.{four}
use Rattle.disk_pictures.specs.ComparedOutcomes.{disk_in}
use Rattle.disk_pictures.specs.ComparedPages.{changes_text, compared_text, comparison_page, comparison_text, marks_text}
use Rattle.disk_pictures.specs.Comparisons.{Disk}
use Rattle.disk_pictures.specs.Html.{html_of}
use Rattle.disk_pictures.specs.Petscii.{petscii_of}
use Rattle.disk_pictures.specs.Pictures.{drawing_text, end_text, title_text, told_text}
use Rattle.disk_pictures.proofs.comparison.comparing.print_comparison.Goals as goal

all-printed : (a b c d e f h i j : Option (List ℕ)) (x y : Disk)
    → Appends a b (title_text html_of petscii_of y.map)
    → Appends b c (told_text html_of y.verdict y.map y.layout)
    → Appends c d (drawing_text html_of y.verdict.found y.map y.layout)
    → Appends d e (marks_text x.image y.image) → Appends e f (compared_text html_of x y)
    → Appends f h (changes_text html_of petscii_of x y) → Appends h i end_text → Keeps i j
    → Appends a j (comparison_page x y)
unfolding comparison_text
all-printed a b c d e f h i j x y title told drawing marks compared changes end kept =
    Appends-kept a i j _
    (Appends-trans a b i _ _ title (Appends-trans b c i _ _ told (Appends-trans c d i _ _ drawing
    (four d e f h i _ _ _ _ marks compared changes end))))
    kept

pub returns-clause-ok : goal.returns-clause-ok
unfolding end_text
returns-clause-ok g c =
    at-ok c.flush.result (all-printed _ _ _ _ _ _ _ _ _ (disk_in c.args.before.now) (disk_in c.args.after.now)
    c.in_ok-print_text.ensures.ok c.in_ok-print_text-2.ensures.ok c.in_ok-print_drawing.ensures.ok c.in_ok-print_marks.ensures.ok
    c.in_ok-print_text-3.ensures.ok c.in_ok-print_changes.ensures.ok c.in_ok-print_text-4.ensures.ok c.flush.ensures.kept)
