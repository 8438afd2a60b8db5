-- What was written is the text of this answer, whose quantities have ten digits at most.
use Rattle.std.proofs.Common.{arith}
use Rattle.request_cards.specs.declared.answer.Answer.TheVariants.{Done, Short, Over, NoCard, DiskFull, TooLarge}
use Rattle.request_cards.proofs.Answering.{moved_text, text_of}
use Rattle.request_cards.proofs.Texts.{number_length}
use Rattle.request_cards.proofs.reply.write_answer.Goals as goal

pub returns-in-Done-clause-written : goal.returns-in-Done-clause-written
returns-in-Done-clause-written c = text_of c.args.answer (Done c.in-Done.quantity) _ _ c.in-Done.is
    c.write_named.ensures.written

pub returns-in-Moved-clause-written : goal.returns-in-Moved-clause-written
returns-in-Moved-clause-written c =
    moved_text c.args.answer c.in-Moved.quantity c.in-Moved.to_quantity _ _ _ _ c.in-Moved.is
    c.write_named-in-Moved.ensures.written c.write_before-comma.ensures.written c.write_number-number.ensures.written

pub returns-in-Short-clause-written : goal.returns-in-Short-clause-written
returns-in-Short-clause-written c = text_of c.args.answer (Short c.in-Short.quantity) _ _ c.in-Short.is
    c.write_named-in-Short.ensures.written

pub returns-in-Over-clause-written : goal.returns-in-Over-clause-written
returns-in-Over-clause-written c = text_of c.args.answer (Over c.in-Over.quantity) _ _ c.in-Over.is
    c.write_named-in-Over.ensures.written

pub returns-in-NoCard-clause-written : goal.returns-in-NoCard-clause-written
returns-in-NoCard-clause-written c = text_of c.args.answer NoCard _ _ c.in-NoCard.is c.write_before.ensures.written

pub returns-in-DiskFull-clause-written : goal.returns-in-DiskFull-clause-written
returns-in-DiskFull-clause-written c = text_of c.args.answer DiskFull _ _ c.in-DiskFull.is
    c.write_before-in-DiskFull.ensures.written

pub returns-in-TooLarge-clause-written : goal.returns-in-TooLarge-clause-written
returns-in-TooLarge-clause-written c = text_of c.args.answer TooLarge _ _ c.in-TooLarge.is
    c.write_before-in-TooLarge.ensures.written

pub write_number-number-requires : goal.write_number-number-requires
write_number-number-requires c =
    let ten = (number_length c.in-Moved.to_quantity (omega arith)).0 in (omega (arith, ten), omega arith)

pub write_before-comma-requires : goal.write_before-comma-requires
write_before-comma-requires c =
    let ten = (number_length c.in-Moved.to_quantity (omega arith)).0 in (omega (arith, ten), omega arith)

pub write_named-requires-in-Moved : goal.write_named-requires-in-Moved
write_named-requires-in-Moved c =
    let ten = (number_length c.in-Moved.to_quantity (omega arith)).0 in (omega (arith, ten), omega arith)

pub returns-in-Moved-clause-start : goal.returns-in-Moved-clause-start
returns-in-Moved-clause-start c =
    let ten = (number_length c.in-Moved.to_quantity (omega arith)).0 in (omega arith, omega (arith, ten))

pub write_named-requires : goal.write_named-requires
write_named-requires c = (omega arith, omega arith)

pub write_named-requires-in-Short : goal.write_named-requires-in-Short
write_named-requires-in-Short c = (omega arith, omega arith)

pub write_named-requires-in-Over : goal.write_named-requires-in-Over
write_named-requires-in-Over c = (omega arith, omega arith)

pub write_before-requires : goal.write_before-requires
write_before-requires c = (omega arith, omega arith)

pub write_before-requires-in-DiskFull : goal.write_before-requires-in-DiskFull
write_before-requires-in-DiskFull c = (omega arith, omega arith)

pub write_before-requires-in-TooLarge : goal.write_before-requires-in-TooLarge
write_before-requires-in-TooLarge c = (omega arith, omega arith)

pub returns-in-Done-clause-start : goal.returns-in-Done-clause-start
returns-in-Done-clause-start c = (omega arith, omega arith)

pub returns-in-Short-clause-start : goal.returns-in-Short-clause-start
returns-in-Short-clause-start c = (omega arith, omega arith)

pub returns-in-Over-clause-start : goal.returns-in-Over-clause-start
returns-in-Over-clause-start c = (omega arith, omega arith)

pub returns-in-NoCard-clause-start : goal.returns-in-NoCard-clause-start
returns-in-NoCard-clause-start c = (omega arith, omega arith)

pub returns-in-DiskFull-clause-start : goal.returns-in-DiskFull-clause-start
returns-in-DiskFull-clause-start c = (omega arith, omega arith)

pub returns-in-TooLarge-clause-start : goal.returns-in-TooLarge-clause-start
returns-in-TooLarge-clause-start c = (omega arith, omega arith)
