-- What each card that is written asks.
use Rattle.host_session.proofs.lemmas.writing.Completions.{moved-fits}
use Rattle.host_session.proofs.lemmas.writing.Completions.{moved-fits'}
use Rattle.host_session.proofs.lemmas.writing.Completions.{moved-there, moved-there'}
use Rattle.host_session.proofs.lemmas.writing.IntentAnswers.{moved-of, two-in}
use Rattle.host_session.proofs.shop.completion.write_results.Goals as goal

pub write_quantity-requires-2-clause-there : goal.write_quantity-requires-2-clause-there
write_quantity-requires-2-clause-there g c =
    let (f, h, x) = c.requires.intent in
    let (at, to, is) = moved-of c.args.card.now.newest.body c.in-Some.item c.in-Some.quantity c.in-Some-second.to
    c.in-Some-second.to_quantity c.args.card.now.newest.answer
    (two-in c.new_quantities-new.result _ c.new_quantities-new.ensures.value _ _ c.in-Some.is c.in-Some-second.is) in (
      f,
      h,
      moved-there f c.args.till c.args.card.now x c.in-Some.item c.in-Some.quantity c.in-Some-second.to
          c.in-Some-second.to_quantity at to is,
    )

pub write_quantity-requires-2-clause-fits : goal.write_quantity-requires-2-clause-fits
write_quantity-requires-2-clause-fits g c =
    let (f, h, x) = c.requires.intent in
    let (at, to, is) = moved-of c.args.card.now.newest.body c.in-Some.item c.in-Some.quantity c.in-Some-second.to
    c.in-Some-second.to_quantity c.args.card.now.newest.answer
    (two-in c.new_quantities-new.result _ c.new_quantities-new.ensures.value _ _ c.in-Some.is c.in-Some-second.is) in
    moved-fits f c.args.till c.args.card.now x c.in-Some.item c.in-Some.quantity c.in-Some-second.to
    c.in-Some-second.to_quantity at to is

pub write_quantity-requires-3-clause-there : goal.write_quantity-requires-3-clause-there
write_quantity-requires-3-clause-there g c =
    let (f, h, x) = c.requires.intent in
    let (at, to, is) = moved-of c.args.card.now.newest.body c.in-Some.item c.in-Some.quantity c.in-Some-second.to
    c.in-Some-second.to_quantity c.args.card.now.newest.answer
    (two-in c.new_quantities-new.result _ c.new_quantities-new.ensures.value _ _ c.in-Some.is c.in-Some-second.is) in
    let (b, has) = c.in_ok-write_quantity.ensures.ok f h in (
      _,
      has,
      moved-there' f c.args.till c.args.card.now x c.in-Some.item c.in-Some.quantity c.in-Some-second.to
          c.in-Some-second.to_quantity at to is,
    )

pub write_quantity-requires-3-clause-fits : goal.write_quantity-requires-3-clause-fits
write_quantity-requires-3-clause-fits g c =
    let (f, h, x) = c.requires.intent in
    let (at, to, is) = moved-of c.args.card.now.newest.body c.in-Some.item c.in-Some.quantity c.in-Some-second.to
    c.in-Some-second.to_quantity c.args.card.now.newest.answer
    (two-in c.new_quantities-new.result _ c.new_quantities-new.ensures.value _ _ c.in-Some.is c.in-Some-second.is) in
    moved-fits' f c.args.till c.args.card.now x c.in-Some.item c.in-Some.quantity c.in-Some-second.to
    c.in-Some-second.to_quantity at to is
