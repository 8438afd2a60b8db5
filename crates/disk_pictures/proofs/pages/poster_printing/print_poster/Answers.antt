-- The head, the drawing, the legend and the lines are the poster.
use Rattle.std.proofs.Common.{List, ℕ, length, map, subst, sym}
use Rattle.std.proofs.lemmas.List.{length-map}
use Rattle.std.specs.Prelude.{Option}
use Rattle.std.specs.Io.KnownBytes.{Appends, Keeps}
use Rattle.std.proofs.KnownBytes.{Appends-kept, Appends-trans}
use Rattle.d64_image.specs.Images.{Sector}
use Rattle.disk_layout.specs.Layout.{Layout}
use Rattle.d64_image.proofs.Told.{at-ok}
use Rattle.disk_pictures.proofs.Printing.{three}
use Rattle.disk_pictures.specs.Drawings.{file_in}
use Rattle.disk_pictures.specs.Held.{drawn_in}
use Rattle.disk_pictures.specs.Html.{html_of}
use Rattle.disk_pictures.specs.Pictures.{drawing_text}
use Rattle.disk_pictures.specs.Petscii.{petscii_of}
use Rattle.disk_pictures.specs.Legends.{legend_of, poster_legend}
use Rattle.disk_pictures.specs.Posters.{poster_head, poster_line, poster_of, poster_text, poster_told}
use Rattle.disk_pictures.specs.Texts.{numbered}
use Rattle.disk_pictures.specs.declared.verdicts.Verdict.{Verdict}
use Rattle.disk_pictures.proofs.pages.poster_printing.print_poster.Goals as goal

all-printed : (a b c d e f i : Option (List ℕ)) (v : Verdict) (bytes : Sector) (l : Layout)
    → Appends a b (poster_head html_of petscii_of bytes)
    → Appends b c (poster_told html_of v bytes l) → Appends c d (drawing_text html_of v.found bytes l)
    → Appends d e (poster_legend (legend_of v.found bytes l))
    → Appends e f (numbered (poster_line html_of petscii_of (length l.files)) 0 l.files) → Keeps f i
    → Appends a i (poster_of v bytes l)
unfolding poster_text
all-printed a b c d e f i v bytes l head told drawing legend lines kept =
    Appends-kept a f i _
    (Appends-trans a b f _ _ head (Appends-trans b c f _ _ told (three c d e f _ _ _ drawing legend lines)))
    kept

pub returns-clause-ok : goal.returns-clause-ok
returns-clause-ok g c =
    let d = c.args.drawing.now in
    let lines = subst (λ fs. Appends (g.W.Write.contents c.print_text-3.new.out) (g.W.Write.contents c.print_lines.new.out)
    (numbered (poster_line html_of petscii_of (length fs)) 0 (map file_in fs))) c.as_slice.ensures.value c.in_ok-print_lines.ensures.ok in
    let legend = subst (λ k. Appends (g.W.Write.contents c.print_drawing.new.out) (g.W.Write.contents c.print_text-3.new.out)
    (poster_legend k)) c.of.ensures c.in_ok-print_text-3.ensures.ok in
    let all = subst (λ (n : ℕ). Appends (g.W.Write.contents c.print_text-3.new.out) (g.W.Write.contents c.print_lines.new.out)
    (numbered (poster_line html_of petscii_of n) 0 (map file_in d.files.items))) (sym (length-map d.files.items file_in)) lines in
    at-ok c.flush.result (all-printed _ _ _ _ _ _ _ c.args.verdict d.map (drawn_in d)
    c.in_ok-print_text.ensures.ok
    c.in_ok-print_text-2.ensures.ok
    c.in_ok-print_drawing.ensures.ok legend all c.flush.ensures.kept)
