-- The beginning, the dashes, the end.
use Rattle.std.proofs.Common.{◌≡◌, ℕ, refl, subst, sym, true, ◌∙◌}
use Rattle.std.specs.Io.KnownBytes.{Appends}
use Rattle.std.proofs.lemmas.Result.{on_ok_weaker}
use Rattle.d64_image.specs.Images.{Sector}
use Rattle.disk_layout.specs.Layout.{Layout}
use Rattle.disk_pictures.proofs.Printing.{three}
use Rattle.disk_pictures.specs.Pictures.{is_track_open, own_ring, white_ring}
use Rattle.disk_pictures.proofs.pages.white_lines.print_ring.Goals as goal

opened : (map : Sector) (l : Layout) (track : ℕ) → is_track_open map l track ≡ true
    → white_ring map l track ≡ own_ring map l track
opened map l track found = rw found refl

pub returns-in_ok-print_dashes-clause-ok : goal.returns-in_ok-print_dashes-clause-ok
unfolding white_ring
returns-in_ok-print_dashes-clause-ok g c =
    on_ok_weaker c.print_text-then-is_track_open.result (λ end. subst (Appends _ _)
    (opened _ _ c.args.track (sym c.is_track_open.ensures ∙ c.if-is_track_open.true))
    (three _ _ _ _ _ _ _ c.in_ok-print_text.ensures.ok c.in_ok-print_dashes.ensures.ok end)) c.print_text-then-is_track_open.ensures.ok
