-- The device or the output failed.
use Rattle.std.proofs.Common.{◌≡◌, ◌∙◌, false, subst, sym}
use Rattle.request_cards.specs.declared.reply.Reply.TheVariants.{Cut}
use Rattle.host_session.proofs.lemmas.runs.AskedTold.{cut_is, is_reset, no_none, was_broken}
use Rattle.host_session.proofs.lemmas.runs.Looped.{breaks_off, fails}
use Rattle.host_session.specs.events.Instants.{instant_of}
use Rattle.host_session.specs.runs.Loops.{EndsBy}
use Rattle.host_session.specs.events.OneEvent.{EndsFailed, GoesOn, IsEvent}
use Rattle.host_session.specs.declared.runs.event_loop.LoopFault.TheVariants as faults
use Rattle.host_session.specs.events.Telling.{IsTold}
use Rattle.host_session.specs.events.Within.{IsWithinMost, SparesTheDisk}
use Rattle.host_session.proofs.runs.event_loop.run_on.Goals as goal

pub returns-in-Err : goal.returns-in-Err
returns-in-Err g c = λ from w alive.
    let h = g.D.Sectors.history in
    let a = g.A.EventSource.source in
    let o = g.T.Replies.output in
    let before = c.loop-next.invariant.way from w alive in
    let x = c.loop-next.session.disk in
    let y = c.in-Err.disk in
    let m = a.here c.loop-next.asks in
    fails h a o from x y c.loop-next.asks Cut c.loop-next.out c.tell.new.self c.tell.result c.tell.ensures
    (λ t settled. subst (λ n. IsEvent h t n x y (EndsFailed h t n Cut y))
    (is_reset m c.message.result.now _ c.message.ensures
    (cut_is _ c.cut.result c.unwrap-cut.result _ c.unwrap-cut.ensures c.cut.ensures))
    (c.in-Err.ensures.stopped t settled before.0).0)
    (λ none. absurd (no_none _ _ (cut_is _ c.cut.result c.unwrap-cut.result _ c.unwrap-cut.ensures c.cut.ensures) none))
    (subst (λ n. SparesTheDisk h n x y)
    (is_reset m c.message.result.now _ c.message.ensures
    (cut_is _ c.cut.result c.unwrap-cut.result _ c.unwrap-cut.ensures c.cut.ensures))
    (λ t settled. (c.in-Err.ensures.stopped t settled before.0).1 t settled))
    (subst (λ n. IsWithinMost h n x y)
    (is_reset m c.message.result.now _ c.message.ensures
    (cut_is _ c.cut.result c.unwrap-cut.result _ c.unwrap-cut.ensures c.cut.ensures))
    (λ t settled. (c.in-Err.ensures.stopped t settled before.0).2 t settled))
    before.1

pub returns-then-is_err : goal.returns-then-is_err
returns-then-is_err g c = λ from w alive.
    let h = g.D.Sectors.history in
    let a = g.A.EventSource.source in
    let o = g.T.Replies.output in
    let before = c.loop-next.invariant.way from w alive in
    let x = c.loop-next.session.disk in
    let y = c.in-Ok.next.disk in
    let m = a.here c.loop-next.asks in
    let told = c.tell-in-loop-next in
    subst (λ d. EndsBy h a o from c.loop-next.asks told.new.self d faults.Output) (sym c.close.ensures)
    (breaks_off h a o from x y c.loop-next.asks Cut c.loop-next.out told.new.self (c.in-Ok.next.dead ≡ false)
    (was_broken o c.loop-next.out told.new.self Cut (instant_of h y) told.result (sym c.is_err.ensures.value
    ∙ c.if-is_err.true)
    (subst (λ d. IsTold o c.loop-next.out told.new.self Cut (instant_of h d) told.result) c.disk.ensures told.ensures))
    (λ t settled.
    let e = c.in-Ok.ensures.done t settled before.0 in (
      e.0,
      subst (λ n. IsEvent h t n x y (GoesOn h t n Cut y))
          (is_reset m c.message.result.now _ c.message.ensures
          (cut_is _ c.cut.result c.unwrap-cut.result _ c.unwrap-cut.ensures c.cut.ensures)) e.1,
    ))
    (λ none. absurd (no_none _ _ (cut_is _ c.cut.result c.unwrap-cut.result _ c.unwrap-cut.ensures c.cut.ensures) none))
    (subst (λ n. SparesTheDisk h n x y)
    (is_reset m c.message.result.now _ c.message.ensures
    (cut_is _ c.cut.result c.unwrap-cut.result _ c.unwrap-cut.ensures c.cut.ensures))
    (λ t settled. (c.in-Ok.ensures.done t settled before.0).2 t settled))
    (subst (λ n. IsWithinMost h n x y)
    (is_reset m c.message.result.now _ c.message.ensures
    (cut_is _ c.cut.result c.unwrap-cut.result _ c.unwrap-cut.ensures c.cut.ensures))
    (λ t settled. (c.in-Ok.ensures.done t settled before.0).3 t settled))
    before.1)
