-- The files so far are whole.
use Rattle.std.proofs.Common.{map}
use Rattle.disk_pictures.proofs.lemmas.views.Trimmed.{AreWholeBelow}
use Rattle.disk_pictures.specs.Drawings.{file_in}
use Rattle.disk_pictures.proofs.views.past_tracks.are_files_whole.Given as goal

abbrev pub invariant-loop-file : goal.invariant-loop-file
invariant-loop-file l = AreWholeBelow l.image (map file_in l.files) l.file-index
