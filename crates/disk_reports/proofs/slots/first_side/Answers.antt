-- The bytes at 21 name a place, or none.
use Rattle.disk_layout.proofs.lemmas.chains.Names.{named-match}
use Rattle.disk_reports.proofs.slots.first_side.Goals as goal

pub returns : goal.returns
returns c = named-match c.args.slot.now.bytes _ 21 _ c.new.ensures c.first_side.ensures
