use Rattle.disk_pictures.proofs.DrawnOnce.{drawn-once}
use Rattle.disk_pictures.proofs.laws.sectors_are_drawn_once.Goals as goal

pub returns : goal.returns
returns c = drawn-once
