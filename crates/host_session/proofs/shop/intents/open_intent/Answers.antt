-- A second open intent is a second one of all.
use Rattle.std.proofs.Common.{refl, sym, ◌∙◌}
use Rattle.host_session.proofs.lemmas.judging.TableEntries.{among-two}
use Rattle.host_session.proofs.shop.intents.open_intent.Goals as goal

pub returns-then-is_some-clause-err : goal.returns-then-is_some-clause-err
returns-then-is_some-clause-err c = (
  refl,
  among-two c.args.requests.now c.loop-place.place c.index-requests-place.result c.loop-place-test.true
      c.type_inv.requests
      c.in-Some.card c.in-Some.is (sym c.pending.ensures ∙ c.if-pending.true) c.loop-place.found (sym c.is_some.ensures
      ∙ c.if-is_some.true) c.loop-place.invariant,
)

pub returns-then-is_some-clause-ok : goal.returns-then-is_some-clause-ok
returns-then-is_some-clause-ok c = tt
