-- The lines of the sectors so far were printed.
use Rattle.std.proofs.Common.{take}
use Rattle.std.specs.Prelude.{flat_map, option_map}
use Rattle.std.specs.Io.KnownBytes.{Appends}
use Rattle.d64_image.specs.Places.{places}
use Rattle.damaged_files.specs.reached.Sizes.{error_of}
use Rattle.disk_pictures.specs.Held.{drawn_in}
use Rattle.disk_pictures.specs.Trims.{entry_at, error_line}
use Rattle.disk_pictures.proofs.views.reading_errors.print_errors.Given as goal

abbrev pub invariant-loop-index : goal.invariant-loop-index
invariant-loop-index g l = Appends (g.E.Write.contents l.fn.err) (g.E.Write.contents l.err)
    (flat_map (λ p. error_line p (entry_at (option_map (λ drawn. drawn_in drawn.now) l.drawing) p) (error_of l.image p)) (take l.index places))
