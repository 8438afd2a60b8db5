use Rattle.disk_pictures.proofs.Owned.{owner-own}
use Rattle.disk_pictures.proofs.Sound.{drawn-own, own-once}
use Rattle.disk_pictures.proofs.laws.sound_disks_are_drawn_as_laid_out.Goals as goal

pub returns : goal.returns
returns c = record {
  drawn = drawn-own;
  once = own-once;
  owner = owner-own;
}
