-- What is found is there.
use Rattle.disk_pictures.proofs.Shared.{found-has}
use Rattle.disk_pictures.proofs.pages.sharing.is_among.Goals as goal

pub returns : goal.returns
returns c = found-has _ _ _ c.stands_in.ensures
