-- A run that is refused, and one that is opened.
use Rattle.std.proofs.Common.{◌∙◌, [], ap, subst, sym}
use Rattle.host_session.proofs.lemmas.runs.Looped.{has_none}
use Rattle.host_session.proofs.lemmas.runs.RunEnds.{run_ended, run_refused}
use Rattle.host_session.proofs.lemmas.runs.RunOpenings.{opening_failed, opening_later, opening_refused}
use Rattle.host_session.proofs.lemmas.runs.Runs.{held_none}
use Rattle.host_session.specs.runs.Loops.{Ends, IsStretch, Origin, with_disk}
use Rattle.host_session.proofs.runs.event_loop.run.Goals as goal

pub returns-in-Err : goal.returns-in-Err
returns-in-Err g c =
    let h = g.D.Sectors.history in
    run_refused h g.A.EventSource.source g.T.Replies.output c.args.disk c.in-Err.disk c.args.asks.now c.args.out.now
    c.in-Err.fault
    (opening_refused h _ _ _ c.in-Err.ensures.err c.in-Err.ensures.unfit c.in-Err.ensures.moments)
    (λ s shop. held_none h s [] c.args.disk c.in-Err.disk (c.in-Err.ensures.moments s shop).held
    (opening_later h _ _ _ c.in-Err.ensures.failures))
    c.in-Err.ensures.quiet
    (λ shop never. opening_failed h _ _ _ c.in-Err.ensures.err shop c.in-Err.ensures.failures never)

pub run_on-requires : goal.run_on-requires
run_on-requires g c = (c.whole_messages.ensures.cut c.in-Cut.is).0

pub returns-in-Cut : goal.returns-in-Cut
returns-in-Cut g c =
    let h = g.D.Sectors.history in
    let a = g.A.EventSource.source in
    let o = g.T.Replies.output in
    let ok = c.in-Ok.ensures.ok in
    let from : Origin g.row.D.Denot g.row.A.Denot g.row.T.Denot =
    record { shop = ok.0; disk = c.args.disk; asks = c.args.asks.now; out = c.args.out.now } in
    let come = has_none h a o from c.in-Ok.session.disk (c.in-Ok.ensures.moments ok.0 ok.1) (c.in-Ok.ensures.quiet ok.0)
    c.in-Ok.ensures.failures ok.2 in
    let stretch =
    subst (IsStretch h a o from c.whole_messages.new.session c.whole_messages.new.asks c.whole_messages.new.out)
    c.in-Cut.is
    (c.whole_messages.ensures.way from come ok.3) in
    run_ended h a o from c.run_on.new.asks c.run_on.new.out ok.1 c.run_on.result
    (c.run_on.ensures from stretch.1 stretch.0)

pub returns-in-Ended : goal.returns-in-Ended
returns-in-Ended g c =
    let h = g.D.Sectors.history in
    let a = g.A.EventSource.source in
    let o = g.T.Replies.output in
    let ok = c.in-Ok.ensures.ok in
    let from : Origin g.row.D.Denot g.row.A.Denot g.row.T.Denot =
    record { shop = ok.0; disk = c.args.disk; asks = c.args.asks.now; out = c.args.out.now } in
    let come = has_none h a o from c.in-Ok.session.disk (c.in-Ok.ensures.moments ok.0 ok.1) (c.in-Ok.ensures.quiet ok.0)
    c.in-Ok.ensures.failures ok.2 in
    let stretch =
    subst (IsStretch h a o from c.whole_messages.new.session c.whole_messages.new.asks c.whole_messages.new.out)
    c.in-Ended.is
    (c.whole_messages.ensures.way from come ok.3) in
    run_ended h a o from c.whole_messages.new.asks c.whole_messages.new.out ok.1 c.ended.result
    (subst (Ends h a o from c.whole_messages.new.asks c.whole_messages.new.out)
    (ap (λ d. with_disk d c.in-Ended.end) (sym c.close.ensures) ∙ sym c.ended.ensures) stretch)
