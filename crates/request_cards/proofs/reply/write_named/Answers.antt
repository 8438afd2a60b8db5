-- A quantity has ten digits at most.
use Rattle.std.proofs.Common.{◌++◌, ◌∙◌, ap, arith}
use Rattle.request_cards.proofs.Texts.{number_length}
use Rattle.request_cards.proofs.reply.write_named.Goals as goal

pub write_number-number-requires : goal.write_number-number-requires
write_number-number-requires c =
    let ten = (number_length c.args.quantity (omega arith)).0 in (omega (arith, ten), omega arith)

pub write_before-requires : goal.write_before-requires
write_before-requires c =
    let ten = (number_length c.args.quantity (omega arith)).0 in (omega (arith, ten), omega arith)

pub returns-clause-start : goal.returns-clause-start
returns-clause-start c =
    let ten = (number_length c.args.quantity (omega arith)).0 in (omega arith, omega (arith, ten))

pub returns-clause-written : goal.returns-clause-written
returns-clause-written c =
    c.write_before.ensures.written ∙ ap (λ text. c.args.name.now ++ text) c.write_number-number.ensures.written
