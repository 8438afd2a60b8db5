-- The lines of the sectors so far were printed.
use Rattle.std.proofs.Common.{take}
use Rattle.std.specs.Prelude.{flat_map, option_map}
use Rattle.std.specs.Io.KnownBytes.{Appends}
use Rattle.disk_pictures.specs.Held.{drawn_in}
use Rattle.disk_pictures.specs.PastErrors.{entry_past, past_error_line}
use Rattle.long_chains.specs.Sectors.{error_in}
use Rattle.disk_pictures.proofs.views.past_errors.print_errors_at.Given as goal

abbrev pub invariant-loop-number : goal.invariant-loop-number
invariant-loop-number g l = Appends (g.E.Write.contents l.fn.err) (g.E.Write.contents l.err)
    (flat_map (λ n. past_error_line n (entry_past l.image (option_map (λ drawn. drawn_in drawn.now) l.drawing) n) (error_in l.image n))
    (take l.number-index l.numbers))
