-- What was read field by field is no entry of a card.
use Rattle.std.proofs.Common.{◌≡◌, sym, ◌∙◌, subst, true}
use Rattle.request_cards.specs.CardTexts.{IsEntry, goes_with}
use Rattle.request_cards.specs.Requests.{IsBody}
use Rattle.request_cards.proofs.EntryFields.{HasFields, body_same, entry_same, fields_are, no_answer, one_answer}
use Rattle.request_cards.proofs.Widths.{none_here, nothing_here}
use Rattle.request_cards.proofs.entry.CardEntry.read_fields.Goals as goal

-- the grammar has no such wish
pub returns-in_err-wish : goal.returns-in_err-wish
returns-in_err-wish c =
    record {
      found = nothing_here c.from_residual-in_err-wish.result _ c.from_residual-in_err-wish.ensures;
      range = nothing_here c.from_residual-in_err-wish.result _ c.from_residual-in_err-wish.ensures;
      none = none_here c.from_residual-in_err-wish.result _ c.from_residual-in_err-wish.ensures
          (λ pending e rest is to second text.
          let has : HasFields c.args.bytes.now c.args.at c.in_ok-pending.pending c.in_ok-number.number c.in_ok-kind.kind
          c.in_ok-item.item c.in_ok-quantity.quantity c.in_ok-code.code c.in_ok-in_answer.in_answer = record {
            state = c.in_ok-pending.ensures.found;
            number = c.in_ok-number.ensures.found;
            kind = c.in_ok-kind.ensures.found;
            item = c.in_ok-item.ensures.found;
            quantity = c.in_ok-quantity.ensures.found;
            code = c.in_ok-code.ensures.found;
            answer = c.in_ok-in_answer.ensures.found;
          } in
          let are = fields_are c.args.bytes.now c.args.at _ _ _ _ _ _ _ pending e rest has is text in
          let same = body_same e.body _ _ _ c.args.to are.kind are.item are.quantity (sym to) in
          c.in_err-wish.ensures.none (subst IsBody (sym same) is.body));
    }

-- no answer to this kind has this digit and these quantities
pub returns-in_err-answer : goal.returns-in_err-answer
returns-in_err-answer c =
    record {
      found = nothing_here c.from_residual-in_err-answer.result _ c.from_residual-in_err-answer.ensures;
      range = nothing_here c.from_residual-in_err-answer.result _ c.from_residual-in_err-answer.ensures;
      none = none_here c.from_residual-in_err-answer.result _ c.from_residual-in_err-answer.ensures
          (λ pending e rest is to second text.
          let has : HasFields c.args.bytes.now c.args.at c.in_ok-pending.pending c.in_ok-number.number c.in_ok-kind.kind
          c.in_ok-item.item c.in_ok-quantity.quantity c.in_ok-code.code c.in_ok-in_answer.in_answer = record {
            state = c.in_ok-pending.ensures.found;
            number = c.in_ok-number.ensures.found;
            kind = c.in_ok-kind.ensures.found;
            item = c.in_ok-item.ensures.found;
            quantity = c.in_ok-quantity.ensures.found;
            code = c.in_ok-code.ensures.found;
            answer = c.in_ok-in_answer.ensures.found;
          } in
          let are = fields_are c.args.bytes.now c.args.at _ _ _ _ _ _ _ pending e rest has is text in
          no_answer e.answer (c.in_err-answer.ensures.only e.answer
          (subst (λ k. goes_with k e.answer ≡ true) (sym are.kind) is.fits) (sym are.code) (sym are.answer) second));
    }

-- what was read is in no card's ranges
pub returns-in_err-entry : goal.returns-in_err-entry
returns-in_err-entry c =
    record {
      found = nothing_here c.from_residual-in_err-entry.result _ c.from_residual-in_err-entry.ensures;
      range = nothing_here c.from_residual-in_err-entry.result _ c.from_residual-in_err-entry.ensures;
      none = none_here c.from_residual-in_err-entry.result _ c.from_residual-in_err-entry.ensures
          (λ pending e rest is to second text.
          let has : HasFields c.args.bytes.now c.args.at c.in_ok-pending.pending c.in_ok-number.number c.in_ok-kind.kind
          c.in_ok-item.item c.in_ok-quantity.quantity c.in_ok-code.code c.in_ok-in_answer.in_answer = record {
            state = c.in_ok-pending.ensures.found;
            number = c.in_ok-number.ensures.found;
            kind = c.in_ok-kind.ensures.found;
            item = c.in_ok-item.ensures.found;
            quantity = c.in_ok-quantity.ensures.found;
            code = c.in_ok-code.ensures.found;
            answer = c.in_ok-in_answer.ensures.found;
          } in
          let are = fields_are c.args.bytes.now c.args.at _ _ _ _ _ _ _ pending e rest has is text in
          let body = c.in_ok-wish.ensures.some
          ∙ body_same e.body _ _ _ c.args.to are.kind are.item are.quantity (sym to) in
          let answer = one_answer c.in_ok-answer.answer e.answer (c.in_ok-answer.ensures.only e.answer
          (subst (λ k. goes_with k e.answer ≡ true) (sym are.kind) is.fits) (sym are.code) (sym are.answer) second) in
          let same = entry_same e _ _ _ are.number body answer in
          c.in_err-entry.ensures.none (subst IsEntry (sym same) is));
    }
