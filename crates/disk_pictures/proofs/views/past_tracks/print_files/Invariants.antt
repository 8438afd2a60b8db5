-- The lines of the files so far were printed.
use Rattle.std.proofs.Common.{map, take}
use Rattle.std.specs.Prelude.{flat_map}
use Rattle.std.specs.Io.KnownBytes.{Appends}
use Rattle.disk_pictures.specs.Drawings.{file_in}
use Rattle.disk_pictures.specs.Trims.{file_text}
use Rattle.disk_pictures.proofs.views.past_tracks.print_files.Given as goal

abbrev pub invariant-loop-file : goal.invariant-loop-file
invariant-loop-file g l = Appends (g.E.Write.contents l.fn.err) (g.E.Write.contents l.err)
    (flat_map (file_text l.image) (map file_in (take l.file-index l.files)))
