-- What was written is the text of this reply: its till has five digits at most, and its number ten.
use Rattle.std.proofs.Common.{arith}
use Rattle.request_cards.specs.declared.reply.Reply.TheVariants.{Syntax, Cut}
use Rattle.request_cards.proofs.Answering.{reply_of, told_text}
use Rattle.request_cards.proofs.Texts.{five_digits, number_length}
use Rattle.request_cards.proofs.reply.Reply.write.Goals as goal

pub returns-in-Syntax-clause-written : goal.returns-in-Syntax-clause-written
returns-in-Syntax-clause-written c = reply_of c.args.self.now Syntax _ _ c.in-Syntax.is c.write_before.ensures.written

pub returns-in-Cut-clause-written : goal.returns-in-Cut-clause-written
returns-in-Cut-clause-written c = reply_of c.args.self.now Cut _ _ c.in-Cut.is c.write_before-in-Cut.ensures.written

pub returns-in-Told-clause-written : goal.returns-in-Told-clause-written
returns-in-Told-clause-written c =
    told_text c.args.self.now c.in-Told.till c.from.result c.in-Told.number c.in-Told.word _ _ _ _ c.in-Told.is
    c.from.ensures c.write_field.ensures.written c.write_field-start.ensures.written c.write_word-start.ensures.written

pub returns-in-Told-clause-start : goal.returns-in-Told-clause-start
returns-in-Told-clause-start c =
    let ten = (number_length c.in-Told.number (omega arith)).0 in
    let five = five_digits c.from.result (omega arith) in
    (omega arith, omega (arith, ten, five))

pub write_field-start-requires : goal.write_field-start-requires
write_field-start-requires c =
    let ten = (number_length c.in-Told.number (omega arith)).0 in (omega (arith, ten), omega arith)

pub write_field-requires : goal.write_field-requires
write_field-requires c =
    let ten = (number_length c.in-Told.number (omega arith)).0 in
    let five = five_digits c.from.result (omega arith) in
    (omega (arith, ten, five), omega arith)

pub write_before-requires : goal.write_before-requires
write_before-requires c = (omega arith, omega arith)

pub write_before-requires-in-Cut : goal.write_before-requires-in-Cut
write_before-requires-in-Cut c = (omega arith, omega arith)

pub write_word-start-requires : goal.write_word-start-requires
write_word-start-requires c = (omega arith, omega arith)

pub returns-in-Syntax-clause-start : goal.returns-in-Syntax-clause-start
returns-in-Syntax-clause-start c = (omega arith, omega arith)

pub returns-in-Cut-clause-start : goal.returns-in-Cut-clause-start
returns-in-Cut-clause-start c = (omega arith, omega arith)
