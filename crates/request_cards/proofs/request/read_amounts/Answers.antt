-- A move has an item to go to, and the other kinds have none.
use Rattle.std.proofs.Common.{◌∙◌, ap, arith}
use Rattle.std.specs.Prelude.{not}
use Rattle.request_cards.proofs.Amounts.{flag_is}
use Rattle.request_cards.proofs.AmountsRead.{is_move, moved_goes, moved_none, moved_nowhere, moved_to_another}
use Rattle.request_cards.proofs.AmountsRead.{moved_to_itself, plain_goes, plain_none, plain_some}
use Rattle.request_cards.proofs.Widths.{nothing_here}
use Rattle.request_cards.proofs.request.read_amounts.Goals as goal

pub returns-in_err-quantity : goal.returns-in_err-quantity
returns-in_err-quantity c = record {
  exact = c.from_residual.ensures
      ∙ plain_none c.args.kind c.args.item c.args.bytes.now (c.if-ne.ensures ∙ ap not (flag_is c.args.kind)) c.in_err-quantity.ensures.exact;
  range = nothing_here c.from_residual.result _ c.from_residual.ensures;
}

pub returns-then-ne : goal.returns-then-ne
returns-then-ne c =
    let plain = c.if-ne.ensures ∙ ap not (flag_is c.args.kind) in
    record {
      exact = plain_some c.args.kind c.args.item c.args.bytes.now c.in_ok-quantity.quantity plain
          c.in_ok-quantity.ensures.exact;
      range = (c.in_ok-quantity.ensures.range.1, omega arith, plain_goes c.args.kind c.args.item plain);
    }

pub returns-in_err-quantity-2 : goal.returns-in_err-quantity-2
returns-in_err-quantity-2 c = record {
  exact = c.from_residual-in_err-quantity-2.ensures
      ∙ moved_none c.args.kind c.args.item c.args.bytes.now (is_move c.args.kind (c.if-ne.ensures ∙ ap not (flag_is c.args.kind)))
      c.in_err-quantity-2.ensures.exact;
  range = nothing_here c.from_residual-in_err-quantity-2.result _ c.from_residual-in_err-quantity-2.ensures;
}

pub returns-in_err-to : goal.returns-in_err-to
returns-in_err-to c = record {
  exact = c.from_residual-in_err-to.ensures
      ∙ moved_nowhere c.args.kind c.args.item c.args.bytes.now c.in_ok-quantity-2.quantity c.in_ok-quantity-2.rest.now
      (is_move c.args.kind (c.if-ne.ensures ∙ ap not (flag_is c.args.kind)))
      c.in_ok-quantity-2.ensures.exact c.in_err-to.ensures.exact;
  range = nothing_here c.from_residual-in_err-to.result _ c.from_residual-in_err-to.ensures;
}

pub returns-then-to-item-clause-exact : goal.returns-then-to-item-clause-exact
returns-then-to-item-clause-exact c =
    moved_to_itself c.args.kind c.args.item c.args.bytes.now c.in_ok-quantity-2.quantity c.in_ok-to.to c.in_ok-quantity-2.rest.now
    (is_move c.args.kind (c.if-ne.ensures ∙ ap not (flag_is c.args.kind)))
    c.in_ok-quantity-2.ensures.exact c.in_ok-to.ensures.exact c.if-to-item.true

pub returns-else-to-item : goal.returns-else-to-item
returns-else-to-item c =
    let move = is_move c.args.kind (c.if-ne.ensures ∙ ap not (flag_is c.args.kind)) in
    let to = c.in_ok-to.ensures.range in
    record {
      exact = moved_to_another c.args.kind c.args.item c.args.bytes.now c.in_ok-quantity-2.quantity c.in_ok-to.to
          c.in_ok-quantity-2.rest.now move c.in_ok-quantity-2.ensures.exact c.in_ok-to.ensures.exact
          c.if-to-item.false;
      range = (
        c.in_ok-quantity-2.ensures.range.1,
        to.1,
        moved_goes c.args.kind c.args.item c.in_ok-to.to move to.0 to.1 c.if-to-item.false,
      );
    }
