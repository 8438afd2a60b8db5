-- The text that is written is that of the card.
use Rattle.std.proofs.Common.{None, Option, Some, ap, refl, subst, ◌∙◌, List, ℕ}
use Rattle.std.specs.Prelude.{IfNone, IsSome, OnOk}
use Rattle.host_session.specs.Held.{Changes}
use Rattle.rel_records.specs.Written.{touched}
use Rattle.request_cards.specs.CardTexts.{stock_text}
use Rattle.host_session.specs.shop.Putting.{HasCard, IsPuttingCard}
use Rattle.host_session.proofs.lemmas.writing.IntentAnswers.{some-of}
use Rattle.host_session.proofs.shop.completion.write_quantity.Goals as goal

-- what fits has a card
has_card : {X : Type 0} (P : Type 0) (o : Option X) → IfNone o (P → ⊥) → P → IsSome o
has_card P None none fits = absurd (none fits)
has_card P (Some x) none fits = refl

pub unwrap-card-requires : goal.unwrap-card-requires
unwrap-card-requires g c = has_card _ c.new.result c.new.ensures.none c.requires.fits

pub write_card-requires-clause-ready : goal.write_card-requires-clause-ready
write_card-requires-clause-ready g c = c.requires.ready

pub write_card-requires-clause-there : goal.write_card-requires-clause-there
write_card-requires-clause-there g c =
    let (f, h, high) = c.requires.there in
    (f, h, c.requires.fits.item_low, high)

pub returns : goal.returns
returns g c =
    let S = g.D.Sectors.history in
    let text = c.print.ensures
    ∙ ap stock_text (some-of _ c.new.result c.unwrap-card.result c.unwrap-card.ensures c.new.ensures.some) in
    record {
      ready = c.write_card.ensures.ready;
      ok = λ f h.
          subst (λ (t : List ℕ). OnOk c.write_card.result
          (HasCard f c.args.item t (S.image c.write_card.new.drive.disk))) text (c.write_card.ensures.ok f h);
      moments = λ f h.
          subst (λ (t : List ℕ). Changes S c.args.drive.now.disk c.write_card.new.drive.disk (touched 18 c.args.item 1)
          (IsPuttingCard f c.args.item t)) text (c.write_card.ensures.moments f h);
      failures = c.write_card.ensures.failures;
      dies = c.write_card.ensures.dies;
    }
