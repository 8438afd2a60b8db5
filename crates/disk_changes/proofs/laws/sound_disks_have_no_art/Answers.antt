-- A sound disk has no directory art at 18/0.
use Rattle.disk_changes.proofs.UnsoundArt.{sound-artless}
use Rattle.disk_changes.proofs.laws.sound_disks_have_no_art.Goals as goal

pub returns : goal.returns
returns c = sound-artless
