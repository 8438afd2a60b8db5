-- The sector at the place's index.
use Rattle.std.proofs.Common.{refl}
use Rattle.d64_image.specs.Images.{sector}
use Rattle.disk_pictures.proofs.comparison.compared.Compared.sector.Goals as goal

pub returns : goal.returns
unfolding sector
returns c = rw (c.index.ensures.value) refl
