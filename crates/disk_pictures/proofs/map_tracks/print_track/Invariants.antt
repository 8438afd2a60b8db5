-- The number, and the marks of the sectors so far, were printed.
use Rattle.std.proofs.Common.{[], ◌∷◌, ◌++◌}
use Rattle.std.specs.Io.KnownBytes.{Appends}
use Rattle.d64_image.specs.Places.{place_at}
use Rattle.disk_pictures.specs.Held.{drawn_in}
use Rattle.disk_pictures.specs.Maps.{mark_of, track_text}
use Rattle.disk_pictures.specs.Texts.{at_place, each_below}
use Rattle.disk_pictures.proofs.map_tracks.print_track.Given as goal

abbrev pub invariant-loop-sector : goal.invariant-loop-sector
invariant-loop-sector g l = Appends (g.W.Write.contents l.fn.out) (g.W.Write.contents l.out)
    (track_text l.track ++ each_below l.sector
    (λ s. at_place (λ p. mark_of l.found l.drawing.map (drawn_in l.drawing) p ∷ []) (place_at l.track s)))
