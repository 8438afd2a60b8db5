-- The text of the answered card is printed.
use Rattle.std.proofs.Common.{ap, ◌∙◌}
use Rattle.request_cards.specs.CardTexts.{card_text}
use Rattle.host_session.proofs.lemmas.writing.IntentAnswers.{intent-fits}
use Rattle.host_session.proofs.shop.completion.complete.Goals as goal

pub answered-requires : goal.answered-requires
answered-requires g c = let (f, h, x) = c.requires.intent in
    record { fits = intent-fits f c.args.till c.args.card.now x }

pub complete_with-requires-clause-text : goal.complete_with-requires-clause-text
complete_with-requires-clause-text g c = c.print.ensures ∙ ap card_text c.answered.ensures
