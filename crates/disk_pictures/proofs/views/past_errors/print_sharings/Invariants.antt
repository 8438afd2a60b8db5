-- The lines of the sectors so far were printed.
use Rattle.std.specs.Prelude.{flat_map, option_map}
use Rattle.std.specs.List.{range_with_len}
use Rattle.std.specs.Io.KnownBytes.{Appends}
use Rattle.disk_pictures.specs.Held.{drawn_in}
use Rattle.disk_pictures.specs.PastErrors.{nth_past, past_sharing_line}
use Rattle.disk_pictures.proofs.views.past_errors.print_sharings.Given as goal

abbrev pub invariant-loop-past : goal.invariant-loop-past
invariant-loop-past g l = Appends (g.E.Write.contents l.fn.err) (g.E.Write.contents l.err)
    (flat_map (λ n. past_sharing_line n (nth_past l.image (option_map (λ drawn. drawn_in drawn.now) l.drawing) n 0)
    (nth_past l.image (option_map (λ drawn. drawn_in drawn.now) l.drawing) n 1)) (range_with_len 683 l.past))
