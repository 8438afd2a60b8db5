-- The record lies in the data of the two blocks.
use Rattle.std.proofs.Common.{arith, ◌+◌, ◌-◌}
use Rattle.rel_records.proofs.lemmas.reading.Lent.{parts-joined}
use Rattle.rel_records.proofs.reading.parts.record_parts.Goals as goal

pub returns-clause-joined : goal.returns-clause-joined
returns-clause-joined c = parts-joined c.args.first.now c.args.second.now c.args.start c.args.size c.min-from.result
    c.min-here.result c.min-next.result c.min-there.result
    (2 + c.min-from.result + c.min-here.result - (2 + c.min-from.result))
    (2 + c.min-next.result + c.min-there.result - (2 + c.min-next.result)) c.told-first c.told-second
    c.min-from.ensures c.min-here.ensures c.min-next.ensures c.min-there.ensures (omega arith) (omega arith)
