-- A record that is empty, a card, or other bytes; an open intent asks for the records of its items.
use Rattle.std.proofs.Common.{ap, refl, subst, sym, ◌∙◌}
use Rattle.std.proofs.lemmas.Bool.{false≢true}
use Rattle.request_cards.specs.CardReading.{request_card_of}
use Rattle.host_session.specs.shop.Found.{Tells}
use Rattle.host_session.proofs.lemmas.judging.TillTables.{bad-intent, bad-other, judged-card, judged-empty}
use Rattle.host_session.proofs.lemmas.judging.TillTables.{lacks-answered, lacks-none, lacks-some, told-none, told-some}
use Rattle.std.proofs.Common.{Some}
use Rattle.host_session.proofs.shop.judgment.judged_till.Goals.{else-pending-via-then-pending+else-passes}
use Rattle.host_session.proofs.shop.judgment.judged_till.Goals.{else-pending-via-else-pending}
use Rattle.host_session.proofs.shop.judgment.judged_till.Goals as goal

pub new_quantities-requires-clause-fits : goal.new_quantities-requires-clause-fits
new_quantities-requires-clause-fits c = c.requires.fits c.in-Card.card
    (c.in-Some.is ∙ ap Some c.in-Card.is)

pub returns-in_default : goal.returns-in_default
returns-in_default c = record {
  ok = λ f t many. told-none request_card_of 127 f.requests c.args.till c.args.read c.in_default.not-Some t;
  fault = tt;
  bad = λ f t many. tt;
}

pub returns-in-Empty : goal.returns-in-Empty
returns-in-Empty c = record {
  ok = λ f t many.
      let (bytes, here, told) = told-some request_card_of 127 f.requests c.args.till c.args.read c.in-Some.held
      c.in-Some.is t in
      judged-empty f c.args.till bytes here (subst (Tells request_card_of 127 bytes) c.in-Empty.is told);
  fault = tt;
  bad = λ f t many. tt;
}

pub returns-else-pending : goal.returns-else-pending
returns-else-pending c = record {
  ok = λ f t many.
      let (bytes, here, told) = told-some request_card_of 127 f.requests c.args.till c.args.read c.in-Some.held
      c.in-Some.is t in
      let reads = subst (Tells request_card_of 127 bytes) c.in-Card.is told in
      judged-card f c.args.till bytes here c.in-Card.card reads (elim c.else-pending.branch [
        | else-pending-via-then-pending+else-passes w ↦
            lacks-none f.stock c.in-Card.card (sym c.pending.ensures ∙ w.if-pending.true) w.new_quantities.result
            w.new_quantities.ensures.value c.args.stock_records many
            w.new_quantities.ensures.low (λ p. false≢true (sym w.if-passes.false ∙ w.passes.ensures.1 p))
        | else-pending-via-else-pending w ↦ lacks-answered f.stock c.in-Card.card (sym c.pending.ensures
            ∙ w.if-pending.false)
      ]);
  fault = tt;
  bad = λ f t many. tt;
}

pub returns-then-passes : goal.returns-then-passes
returns-then-passes c = record {
  ok = λ f t many. tt;
  fault = refl;
  bad = λ f t many.
      let (bytes, here, told) = told-some request_card_of 127 f.requests c.args.till c.args.read c.in-Some.held
      c.in-Some.is t in
      let reads = subst (Tells request_card_of 127 bytes) c.in-Card.is told in
      bad-intent f c.args.till bytes here c.requires.high c.in-Card.card reads
      (lacks-some f.stock c.in-Card.card (sym c.pending.ensures ∙ c.if-pending.true) c.new_quantities.result
      c.new_quantities.ensures.value c.args.stock_records many (c.passes.ensures.0 c.if-passes.true));
}

pub returns-in-Other : goal.returns-in-Other
returns-in-Other c = record {
  ok = λ f t many. tt;
  fault = refl;
  bad = λ f t many.
      let (bytes, here, told) = told-some request_card_of 127 f.requests c.args.till c.args.read c.in-Some.held
      c.in-Some.is t in
      bad-other f c.args.till bytes here c.requires.high (subst (Tells request_card_of 127 bytes) c.in-Other.is told);
}
