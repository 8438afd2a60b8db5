-- A record that is empty, the item's card, or other bytes, where no open intent is for the item.
use Rattle.std.proofs.Common.{Some, refl, subst, sym, ◌∙◌}
use Rattle.request_cards.specs.CardReading.{stock_card_of}
use Rattle.host_session.specs.shop.Found.{Tells}
use Rattle.host_session.specs.shop.LoadedShop.{IsJudgedItem}
use Rattle.host_session.proofs.lemmas.judging.StockTables.{bad-bytes, bad-item, judged-blank, judged-intended}
use Rattle.host_session.proofs.lemmas.judging.StockTables.{judged-stock, left-alone}
use Rattle.host_session.proofs.lemmas.judging.TillTables.{told-none, told-some}
use Rattle.host_session.proofs.shop.judgment.judged_item.Goals as goal

pub returns-in_default : goal.returns-in_default
returns-in_default c = record {
  ok = λ f h t. told-none stock_card_of 18 f.stock c.args.item c.args.read c.in_default.not-Some t;
  fault = tt;
  bad = λ f h t. tt;
}

pub returns-then-is_some : goal.returns-then-is_some
returns-then-is_some c = record {
  ok = λ f h t.
      let (bytes, here, told) = told-some stock_card_of 18 f.stock c.args.item c.args.read c.in-Some.held c.in-Some.is t
      in
      judged-intended f c.args.item c.args.new.now h c.new_quantity-intended.result c.new_quantity-intended.ensures
      bytes here (sym c.is_some.ensures ∙ c.if-is_some.true);
  fault = tt;
  bad = λ f h t. tt;
}

pub returns-in-Empty : goal.returns-in-Empty
returns-in-Empty c = record {
  ok = λ f h t.
      let (bytes, here, told) = told-some stock_card_of 18 f.stock c.args.item c.args.read c.in-Some.held c.in-Some.is t
      in
      let left = left-alone f c.args.item c.args.new.now h c.new_quantity-intended.result
      c.new_quantity-intended.ensures (sym c.is_some.ensures ∙ c.if-is_some.false) in
      judged-blank f c.args.item left bytes here (subst (Tells stock_card_of 18 bytes) c.in-Empty.is told);
  fault = tt;
  bad = λ f h t. tt;
}

pub returns-else-item : goal.returns-else-item
returns-else-item c = record {
  ok = λ f h t.
      let (bytes, here, told) = told-some stock_card_of 18 f.stock c.args.item c.args.read c.in-Some.held c.in-Some.is t
      in
      let left = left-alone f c.args.item c.args.new.now h c.new_quantity-intended.result
      c.new_quantity-intended.ensures (sym c.is_some.ensures ∙ c.if-is_some.false) in
      let known = judged-stock f c.args.item left bytes here c.in-Card.card
      (subst (Tells stock_card_of 18 bytes) c.in-Card.is told) (sym c.item.ensures.value ∙ c.if-item.false) in
      subst (λ q. IsJudgedItem f c.args.item (Some (Some q))) (sym c.quantity.ensures.value) known;
  fault = tt;
  bad = λ f h t. tt;
}

pub returns-then-item : goal.returns-then-item
returns-then-item c = record {
  ok = λ f h t. tt;
  fault = refl;
  bad = λ f h t.
      let (bytes, here, told) = told-some stock_card_of 18 f.stock c.args.item c.args.read c.in-Some.held c.in-Some.is t
      in
      let left = left-alone f c.args.item c.args.new.now h c.new_quantity-intended.result
      c.new_quantity-intended.ensures (sym c.is_some.ensures ∙ c.if-is_some.false) in
      bad-item f c.args.item left bytes here c.in-Card.card (subst (Tells stock_card_of 18 bytes) c.in-Card.is told)
      (λ e. c.if-item.true (c.item.ensures.value ∙ e));
}

pub returns-in-Other : goal.returns-in-Other
returns-in-Other c = record {
  ok = λ f h t. tt;
  fault = refl;
  bad = λ f h t.
      let (bytes, here, told) = told-some stock_card_of 18 f.stock c.args.item c.args.read c.in-Some.held c.in-Some.is t
      in
      let left = left-alone f c.args.item c.args.new.now h c.new_quantity-intended.result
      c.new_quantity-intended.ensures (sym c.is_some.ensures ∙ c.if-is_some.false) in
      bad-bytes f c.args.item left bytes here (subst (Tells stock_card_of 18 bytes) c.in-Other.is told);
}
