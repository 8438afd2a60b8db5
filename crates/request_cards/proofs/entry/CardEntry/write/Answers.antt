-- The entry that is written is its fields, the item to go to and its quantity.
use Rattle.std.proofs.Common.{rules, ◌≡◌}
use Rattle.request_cards.specs.CardTexts.{answer_to_quantity}
use Rattle.request_cards.proofs.Entries.{entry_written}
use Rattle.request_cards.proofs.entry.CardEntry.write.Goals as goal

pub returns-clause-written : goal.returns-clause-written
returns-clause-written c =
    let to : c.to.result ≡ c.args.self.now.body.to = search rules in
    let second : c.quantities-to_quantity.result.1 ≡ answer_to_quantity c.args.self.now.answer = search rules in
    entry_written c.args.pending c.args.self.now _ _ _ _ _ to second c.write_fields.ensures.written
    c.write_end-start.ensures.written
