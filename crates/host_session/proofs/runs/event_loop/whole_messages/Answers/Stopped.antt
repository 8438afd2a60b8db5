-- The device or the output failed.
use Rattle.std.proofs.Common.{◌≡◌, ◌∙◌, false, subst, sym}
use Rattle.std.proofs.lemmas.Bool.{false≢true}
use Rattle.host_session.proofs.lemmas.events.WholeMessages.{whole_done, whole_most, whole_spared, whole_stopped, whole_within}
use Rattle.host_session.proofs.lemmas.runs.AskedTold.{is_whole, no_cut, was_asked, was_broken}
use Rattle.host_session.proofs.lemmas.runs.Looped.{breaks_off, fails, takes_one}
use Rattle.host_session.specs.events.Instants.{instant_of}
use Rattle.host_session.specs.events.OneEvent.{EndsFailed, GoesOn, IsEvent}
use Rattle.host_session.specs.events.Telling.{IsTold}
use Rattle.host_session.specs.events.Within.{IsWithin, IsWithinMost, SparesTheDisk}
use Rattle.host_session.proofs.runs.event_loop.whole_messages.Goals as goal

pub returns-then-is_media-clause-way : goal.returns-then-is_media-clause-way
returns-then-is_media-clause-way g c = λ from w alive.
    let h = g.D.Sectors.history in
    let a = g.A.EventSource.source in
    let o = g.T.Replies.output in
    let before = c.loop-asks.invariant.way from w alive in
    let took = was_asked g.D.Sectors.history g.A.EventSource.source c.loop-asks.asks c.next.new.self c.disk.result.now
    c.loop-asks.session.disk _ _ c.disk.ensures c.in-Event.is c.next.ensures in
    let x = c.loop-asks.session.disk in
    let y = c.handle-reply.new.self.disk in
    let reply = c.handle-reply.result in
    let m = a.here c.next.new.self in
    fails h a o from x y c.next.new.self reply c.loop-asks.out c.tell-taken.new.self c.tell-taken.result
    (subst (λ d. IsTold o c.loop-asks.out c.tell-taken.new.self reply (instant_of h d) c.tell-taken.result)
    c.disk-in-loop-asks.ensures c.tell-taken.ensures)
    (λ t settled. subst (λ n. IsEvent h t n x y (EndsFailed h t n reply y))
    (is_whole m c.message.result.now c.message.ensures (no_cut _ c.cut.result _ c.cut.ensures (sym c.is_some.ensures
    ∙ c.if-is_some.false)))
    (whole_stopped h c.loop-asks.session c.handle-reply.new.self c.message.result.now reply c.handle-reply.ensures t settled before.0 (c.is_media.ensures.0 c.if-is_media.true)))
    (λ _ t settled. subst (λ n. IsWithin h n x y)
    (is_whole m c.message.result.now c.message.ensures
    (no_cut _ c.cut.result _ c.cut.ensures (sym c.is_some.ensures ∙ c.if-is_some.false)))
    (whole_within h c.loop-asks.session c.handle-reply.new.self c.message.result.now reply c.handle-reply.ensures t settled))
    (subst (λ n. SparesTheDisk h n x y)
    (is_whole m c.message.result.now c.message.ensures
    (no_cut _ c.cut.result _ c.cut.ensures (sym c.is_some.ensures ∙ c.if-is_some.false)))
    (whole_spared h c.loop-asks.session c.handle-reply.new.self c.message.result.now reply c.handle-reply.ensures before.0))
    (subst (λ n. IsWithinMost h n x y)
    (is_whole m c.message.result.now c.message.ensures
    (no_cut _ c.cut.result _ c.cut.ensures (sym c.is_some.ensures ∙ c.if-is_some.false)))
    (whole_most h c.loop-asks.session c.handle-reply.new.self c.message.result.now reply c.handle-reply.ensures))
    (takes_one h a o from x c.loop-asks.asks c.next.new.self c.loop-asks.out before.1 took.0 took.2)

pub returns-then-is_err-clause-way : goal.returns-then-is_err-clause-way
returns-then-is_err-clause-way g c = λ from w alive.
    let h = g.D.Sectors.history in
    let a = g.A.EventSource.source in
    let o = g.T.Replies.output in
    let before = c.loop-asks.invariant.way from w alive in
    let took = was_asked g.D.Sectors.history g.A.EventSource.source c.loop-asks.asks c.next.new.self c.disk.result.now
    c.loop-asks.session.disk _ _ c.disk.ensures c.in-Event.is c.next.ensures in
    let x = c.loop-asks.session.disk in
    let y = c.handle-reply.new.self.disk in
    let reply = c.handle-reply.result in
    let m = a.here c.next.new.self in
    breaks_off h a o from x y c.next.new.self reply c.loop-asks.out c.tell-taken.new.self
    (c.handle-reply.new.self.dead ≡ false)
    (was_broken o c.loop-asks.out c.tell-taken.new.self reply (instant_of h y) c.tell-taken.result
    (sym c.is_err.ensures.value ∙ c.if-is_err.true)
    (subst (λ d. IsTold o c.loop-asks.out c.tell-taken.new.self reply (instant_of h d) c.tell-taken.result)
    c.disk-in-loop-asks.ensures c.tell-taken.ensures))
    (λ t settled.
    let e = whole_done h c.loop-asks.session c.handle-reply.new.self c.message.result.now reply c.handle-reply.ensures t settled before.0 (λ is. false≢true (sym c.if-is_media.false
    ∙ c.is_media.ensures.1 is)) in (
      e.0,
      subst (λ n. IsEvent h t n x y (GoesOn h t n reply y))
          (is_whole m c.message.result.now c.message.ensures
          (no_cut _ c.cut.result _ c.cut.ensures (sym c.is_some.ensures ∙ c.if-is_some.false))) e.1,
    ))
    (λ _ t settled. subst (λ n. IsWithin h n x y)
    (is_whole m c.message.result.now c.message.ensures
    (no_cut _ c.cut.result _ c.cut.ensures (sym c.is_some.ensures ∙ c.if-is_some.false)))
    (whole_within h c.loop-asks.session c.handle-reply.new.self c.message.result.now reply c.handle-reply.ensures t settled))
    (subst (λ n. SparesTheDisk h n x y)
    (is_whole m c.message.result.now c.message.ensures
    (no_cut _ c.cut.result _ c.cut.ensures (sym c.is_some.ensures ∙ c.if-is_some.false)))
    (whole_spared h c.loop-asks.session c.handle-reply.new.self c.message.result.now reply c.handle-reply.ensures before.0))
    (subst (λ n. IsWithinMost h n x y)
    (is_whole m c.message.result.now c.message.ensures
    (no_cut _ c.cut.result _ c.cut.ensures (sym c.is_some.ensures ∙ c.if-is_some.false)))
    (whole_most h c.loop-asks.session c.handle-reply.new.self c.message.result.now reply c.handle-reply.ensures))
    (takes_one h a o from x c.loop-asks.asks c.next.new.self c.loop-asks.out before.1 took.0 took.2)
