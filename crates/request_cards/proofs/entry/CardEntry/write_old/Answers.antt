-- A CR stands behind the fields.
use Rattle.std.proofs.Common.{arith}
use Rattle.request_cards.proofs.Entries.{old_written}
use Rattle.request_cards.proofs.entry.CardEntry.write_old.Goals as goal

pub write_before-start-requires : goal.write_before-start-requires
write_before-start-requires c = (omega arith, omega arith)

pub write_fields-requires : goal.write_fields-requires
write_fields-requires c = (omega arith, omega arith)

pub returns-clause-start : goal.returns-clause-start
returns-clause-start c = omega arith

pub returns-clause-written : goal.returns-clause-written
returns-clause-written c =
    old_written c.args.pending c.args.self.now _ _ _ c.write_fields.ensures.written c.write_before-start.ensures.written
