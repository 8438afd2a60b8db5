-- What is cut to its first tracks is what was read.
use Rattle.std.proofs.Common.{ap, ◌∙◌}
use Rattle.damaged_files.specs.reached.Sizes.{disk_of}
use Rattle.opened_files.proofs.readings.first_tracks_at.Goals as goal

pub returns-clause-read : goal.returns-clause-read
returns-clause-read g c = λ other none all holds.
    c.cut_to_disk.ensures ∙ ap disk_of (c.in_ok-image.ensures.read other none all holds)
