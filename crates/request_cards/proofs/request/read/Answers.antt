-- Part by part.
use Rattle.std.proofs.Common.{arith}
use Rattle.std.proofs.Common.{◌≡◌, ◌∙◌, None, Some, subst}
use Rattle.request_cards.proofs.Grammar.{made_of, no_amounts, no_item, no_kind, no_number, no_till}
use Rattle.line_text.specs.Numbers.{number_before}
use Rattle.request_cards.proofs.request.read.Goals as goal

pub returns : goal.returns
returns c =
    made_of c.args.message.now c.in_ok-till.till c.in_ok-count.count c.in_ok-kind.kind c.in_ok-item.item
    c.in_ok-quantity.quantity c.in_ok-quantity.to
    c.in_ok-till.rest.now c.in_ok-count.rest.now c.in_ok-kind.rest.now c.in_ok-item.rest.now
    (subst (λ last. Some (c.in_ok-till.till, c.in_ok-till.rest.now) ≡ number_before 1 last c.args.message.now)
    c.from.ensures c.in_ok-till.ensures.exact)
    c.in_ok-count.ensures.exact c.in_ok-kind.ensures c.in_ok-item.ensures.exact c.in_ok-quantity.ensures.exact

pub overflow_cast-result : goal.overflow_cast-result
overflow_cast-result c = omega (arith, c.in_ok-till.ensures.range)

pub overflow_cast-result-2 : goal.overflow_cast-result-2
overflow_cast-result-2 c = omega (arith, c.in_ok-item.ensures.range)

pub overflow_cast-result-3 : goal.overflow_cast-result-3
overflow_cast-result-3 c = omega (arith, c.in_ok-quantity.ensures.range)

pub returns-in_err-till : goal.returns-in_err-till
returns-in_err-till c =
    c.from_residual.ensures ∙ no_till c.args.message.now
    (subst (λ last. None ≡ number_before 1 last c.args.message.now) c.from.ensures c.in_err-till.ensures.exact)

pub returns-in_err-count : goal.returns-in_err-count
returns-in_err-count c =
    c.from_residual-in_err-count.ensures
    ∙ no_number c.args.message.now c.in_ok-till.till c.in_ok-till.rest.now
    (subst (λ last. Some (c.in_ok-till.till, c.in_ok-till.rest.now) ≡ number_before 1 last c.args.message.now)
    c.from.ensures c.in_ok-till.ensures.exact)
    c.in_err-count.ensures.exact

pub returns-in_err-kind : goal.returns-in_err-kind
returns-in_err-kind c =
    c.from_residual-in_err-kind.ensures
    ∙ no_kind c.args.message.now c.in_ok-till.till c.in_ok-count.count c.in_ok-till.rest.now c.in_ok-count.rest.now
    (subst (λ last. Some (c.in_ok-till.till, c.in_ok-till.rest.now) ≡ number_before 1 last c.args.message.now)
    c.from.ensures c.in_ok-till.ensures.exact)
    c.in_ok-count.ensures.exact c.in_err-kind.ensures

pub returns-in_err-item : goal.returns-in_err-item
returns-in_err-item c =
    c.from_residual-in_err-item.ensures
    ∙ no_item c.args.message.now c.in_ok-till.till c.in_ok-count.count c.in_ok-kind.kind c.in_ok-till.rest.now
    c.in_ok-count.rest.now c.in_ok-kind.rest.now
    (subst (λ last. Some (c.in_ok-till.till, c.in_ok-till.rest.now) ≡ number_before 1 last c.args.message.now)
    c.from.ensures c.in_ok-till.ensures.exact)
    c.in_ok-count.ensures.exact c.in_ok-kind.ensures c.in_err-item.ensures.exact

pub returns-in_err-quantity : goal.returns-in_err-quantity
returns-in_err-quantity c =
    c.from_residual-in_err-quantity.ensures
    ∙ no_amounts c.args.message.now c.in_ok-till.till c.in_ok-count.count c.in_ok-kind.kind c.in_ok-item.item
    c.in_ok-till.rest.now c.in_ok-count.rest.now c.in_ok-kind.rest.now c.in_ok-item.rest.now
    (subst (λ last. Some (c.in_ok-till.till, c.in_ok-till.rest.now) ≡ number_before 1 last c.args.message.now)
    c.from.ensures c.in_ok-till.ensures.exact)
    c.in_ok-count.ensures.exact c.in_ok-kind.ensures c.in_ok-item.ensures.exact c.in_err-quantity.ensures.exact

-- what was read is within the ranges
pub invariant_of-result : goal.invariant_of-result
invariant_of-result c = record {
  till_low = c.in_ok-till.ensures.range.0;
  till_high = omega (arith, c.in_ok-till.ensures.range.1);
  number_low = c.in_ok-count.ensures.range.0;
  number_high = c.in_ok-count.ensures.range.1;
  body = record {
    item_low = c.in_ok-item.ensures.range.0;
    item_high = c.in_ok-item.ensures.range.1;
    quantity_high = c.in_ok-quantity.ensures.range.0;
    to = c.in_ok-quantity.ensures.range.2;
  };
}
