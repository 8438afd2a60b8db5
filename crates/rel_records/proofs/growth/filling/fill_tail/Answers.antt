-- What was read is of bytes, and so is what is filled in.
use Rattle.rel_records.proofs.growth.filling.fill_tail.Goals as goal
use Rattle.rel_records.proofs.lemmas.filling.Tails.{filled-sector}

pub returns-clause-sector : goal.returns-clause-sector
returns-clause-sector c =
    filled-sector c.args.bytes.now c.fill.new.bytes c.args.at c.args.from c.args.length c.args.total c.fits-bytes
    c.fill.array_long c.fill.ensures.link c.fill.ensures.kept c.fill.ensures.filled
