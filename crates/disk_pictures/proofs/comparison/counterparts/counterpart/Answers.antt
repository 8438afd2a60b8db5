-- That of the same name after as many others of it.
use Rattle.std.proofs.Common.{◌∙◌, map}
use Rattle.disk_pictures.proofs.Called.{by-name}
use Rattle.disk_pictures.specs.Comparisons.{counterpart}
use Rattle.disk_pictures.specs.Drawings.{file_in}
use Rattle.disk_pictures.proofs.comparison.counterparts.counterpart.Goals as goal

pub returns : goal.returns
unfolding counterpart
returns c =
    c.nth_called.ensures
    ∙ by-name (map file_in c.args.others.now) c.args.files.now c.args.number _ _ _ c.entry_name-name.ensures.name
    c.count_called.ensures
