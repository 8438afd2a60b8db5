-- Of a request that moves nothing both numbers are 0.
use Rattle.std.proofs.Common.{◌∙◌, arith}
use Rattle.request_cards.proofs.Entries.{end_written, still_end}
use Rattle.request_cards.proofs.entry.write_end.Goals as goal

pub returns-then-to_quantity-eq0-clause-written : goal.returns-then-to_quantity-eq0-clause-written
returns-then-to_quantity-eq0-clause-written c =
    c.write_before.ensures.written ∙ still_end _ c.args.to c.args.to_quantity c.if-to-eq0.true c.if-to_quantity-eq0.true

pub write_before-requires : goal.write_before-requires
write_before-requires c = (omega arith, omega arith)

pub write_before-start-requires : goal.write_before-start-requires
write_before-start-requires c = (omega arith, omega arith)

pub write_fixed-start-requires : goal.write_fixed-start-requires
write_fixed-start-requires c = (omega arith, omega arith)

pub write_fixed_field-start-requires : goal.write_fixed_field-start-requires
write_fixed_field-start-requires c = (omega arith, omega arith)

pub write_before-requires-2 : goal.write_before-requires-2
write_before-requires-2 c = (omega arith, omega arith)

pub returns-then-to_quantity-eq0-clause-start : goal.returns-then-to_quantity-eq0-clause-start
returns-then-to_quantity-eq0-clause-start c = omega arith

pub returns-clause-start : goal.returns-clause-start
returns-clause-start c = omega arith

pub returns-clause-written : goal.returns-clause-written
returns-clause-written c =
    end_written c.args.to c.args.to_quantity c.from.result _ _ _ _ _ c.from.ensures c.write_before-2.ensures.written
    c.write_fixed_field-start.ensures.written c.write_fixed-start.ensures.written c.write_before-start.ensures.written
