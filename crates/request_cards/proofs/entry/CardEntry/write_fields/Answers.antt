-- What was written is the fields of the entry.
use Rattle.std.proofs.Common.{◌≡◌, [], ◌∷◌, ap, sym, ◌∙◌}
use Rattle.request_cards.specs.CardTexts.{state_text}
use Rattle.request_cards.specs.Texts.{kind_text}
use Rattle.request_cards.proofs.Written.{answered_letter, fields_written, open_letter}
use Rattle.request_cards.proofs.entry.CardEntry.write_fields.Goals as goal
use Rattle.request_cards.proofs.entry.CardEntry.write_fields.Goals.{then-pending, else-pending}

pub returns-clause-written : goal.returns-clause-written
returns-clause-written c =
    let state : state_text c.args.pending ≡ c.if-pending.state ∷ [] = elim c.if-pending.branch [
      | then-pending w ↦ open_letter c.args.pending c.if-pending.state w.if-pending.true w.state-is
      | else-pending w ↦ answered_letter c.args.pending c.if-pending.state w.if-pending.false w.state-is
    ] in
    let letter = ap kind_text (sym c.kind.ensures) ∙ c.kind_letter.ensures in
    fields_written c.args.pending c.args.self.now _ c.quantity.result c.code.result c.quantities-quantity.result.0
    c.from.result c.kind_letter.result c.if-pending.state
    _ _ _ _ _ _ _ _ c.self.view_is (ap (λ p. p.0) c.quantities-quantity.ensures) c.write_fixed-start.ensures.written
    c.code.ensures c.write_fixed_field-start.ensures.written c.quantity.ensures
    c.write_fixed_field-start-2.ensures.written
    (c.from.ensures ∙ c.item.ensures) c.write_fixed_field-start-3.ensures.written letter
    c.write_before-start.ensures.written
    c.write_fixed_field-start-4.ensures.written state c.write_before.ensures.written
