-- One of the sectors so far is open, or none.
use Rattle.std.proofs.Common.{◌≡◌}
use Rattle.d64_image.specs.Places.{place_at}
use Rattle.disk_pictures.specs.Held.{drawn_in}
use Rattle.disk_pictures.specs.Pictures.{is_open}
use Rattle.disk_pictures.specs.Texts.{any_below, is_at_place}
use Rattle.disk_pictures.proofs.pages.white_lines.is_track_open.Given as goal

abbrev pub invariant-loop-sector : goal.invariant-loop-sector
invariant-loop-sector l = l.found ≡ any_below l.sector (λ s. is_at_place (is_open l.drawing.map (drawn_in l.drawing))
    (place_at l.track s))
