-- Each sector of a chain is one of the image's.
use Rattle.long_chains.proofs.Inside.{disk-ends}
use Rattle.long_chains.proofs.laws.disks_end_at_track_35.Goals as goal

pub returns : goal.returns
returns c = disk-ends
