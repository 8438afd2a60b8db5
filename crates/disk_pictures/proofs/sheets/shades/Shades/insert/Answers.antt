-- The mark is set, and others stay.
use Rattle.std.proofs.Common.{◌+◌, ◌*◌, arith, false, get_or-set_same, true}
use Rattle.disk_pictures.proofs.lemmas.sheets.Shaded.{mark-kept}
use Rattle.disk_pictures.proofs.sheets.shades.Shades.insert.Goals as goal

pub returns-clause-now : goal.returns-clause-now
returns-clause-now c =
    get_or-set_same c.args.self.now.marks (29 * c.args.below + c.args.shade) true false
    (omega (arith, c.requires.track, c.requires.small, c.args.self.now.full))

pub returns-clause-kept : goal.returns-clause-kept
returns-clause-kept c b n was =
    mark-kept c.args.self.now.marks (29 * c.args.below + c.args.shade) (29 * b + n)
    (omega (arith, c.requires.track, c.requires.small, c.args.self.now.full)) was
