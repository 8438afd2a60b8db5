-- The tracks, the entries and the verdict are the map.
use Rattle.std.proofs.Common.{◌≡◌, Bool, List, ℕ, map, subst}
use Rattle.std.specs.Prelude.{Option, codes}
use Rattle.std.specs.Io.KnownBytes.{Appends, Keeps}
use Rattle.std.proofs.KnownBytes.{Appends-kept}
use Rattle.d64_image.specs.Images.{Sector}
use Rattle.disk_layout.specs.Layout.{Layout}
use Rattle.d64_image.proofs.Told.{at-ok}
use Rattle.disk_pictures.proofs.Printing.{four}
use Rattle.disk_pictures.specs.Drawings.{file_in}
use Rattle.disk_pictures.specs.Held.{drawn_in}
use Rattle.disk_pictures.specs.Maps.{entry_line, is_wide, map_text, tracks_text}
use Rattle.disk_pictures.specs.Texts.{numbered, verdict_text}
use Rattle.disk_pictures.specs.declared.verdicts.Verdict.{Verdict}
use Rattle.disk_pictures.proofs.map_printing.print_map.Goals as goal

all-printed : (a c d e f h : Option (List ℕ)) (wide : Bool) (v : Verdict) (bytes : Sector) (l : Layout)
    → wide ≡ is_wide l → Appends a c (tracks_text wide v.found bytes l) → Appends c d (numbered (entry_line wide) 0 l.files)
    → Appends d e (verdict_text v) → Appends e f (codes "\n") → Keeps f h → Appends a h (map_text v bytes l)
unfolding map_text
all-printed a c d e f h wide v bytes l is tracks entries verdict end kept =
    Appends-kept a f h _
    (rw (← is) (four a c d e f _ _ _ _ tracks entries verdict end)) kept

pub returns-clause-ok : goal.returns-clause-ok
returns-clause-ok g c =
    let d = c.args.drawing.now in
    let entries =
    subst (λ fs. Appends (g.W.Write.contents c.print_either_tracks.new.out) (g.W.Write.contents c.print_entries.new.out)
    (numbered (entry_line c.is_wide-wide.result) 0 (map file_in fs))) c.as_slice.ensures.value c.in_ok-print_entries.ensures.ok in
    at-ok c.flush.result (all-printed _ _ _ _ _ _ _ c.args.verdict d.map (drawn_in d) c.is_wide-wide.ensures
    c.in_ok-print_either_tracks.ensures.ok entries c.in_ok-print_text.ensures.ok c.in_ok-print_text-2.ensures.ok c.flush.ensures.kept)
