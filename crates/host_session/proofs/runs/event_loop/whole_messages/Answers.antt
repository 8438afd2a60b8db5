-- One whole message more.
mod Stopped
use Rattle.std.proofs.Common.{◌≡◌, ◌∙◌, Err, Ok, Result, false, arith, le_refl, not, ap, subst, sym}
use Rattle.std.proofs.lemmas.Bool.{false≢true}
use Rattle.host_session.proofs.lemmas.events.WholeMessages.{whole_done, whole_most, whole_spared, whole_within}
use Rattle.host_session.proofs.lemmas.runs.AskedTold.{is_whole, no_cut, some_cut, was_asked, was_told}
use Rattle.host_session.proofs.lemmas.runs.Looped.{at_end, at_fault, goes_on, takes_one}
use Rattle.host_session.specs.declared.runs.event_loop.LoopFault.{LoopFault}
use Rattle.host_session.specs.declared.runs.event_loop.LoopFault.TheVariants as faults
use Rattle.host_session.specs.declared.runs.event_loop.Stopped.TheVariants as stretches
use Rattle.host_session.specs.events.Instants.{instant_of}
use Rattle.host_session.specs.events.OneEvent.{GoesOn, IsEvent}
use Rattle.host_session.specs.events.Telling.{IsTold}
use Rattle.host_session.specs.events.Within.{IsWithin, IsWithinMost, SparesTheDisk}
use Rattle.host_session.proofs.runs.event_loop.whole_messages.Goals as goal
use Rattle.host_session.proofs.runs.event_loop.whole_messages.Answers.Stopped as stopped

-- a stretch that ended wasn't cut
not_cut : (end : Result (Unit {0}) LoopFault) → stretches.Ended end ≡ stretches.Cut → ⊥
not_cut end is = cc

pub loop-asks-init : goal.loop-asks-init
loop-asks-init g c = record { fuel = le_refl _; way = λ from w alive. (alive, w) }

pub loop-asks-smaller : goal.loop-asks-smaller
loop-asks-smaller g c = (was_asked g.D.Sectors.history g.A.EventSource.source c.loop-asks.asks c.next.new.self
    c.disk.result.now
    c.loop-asks.session.disk _ _ c.disk.ensures c.in-Event.is c.next.ensures).1

pub returns-in-End-clause-cut : goal.returns-in-End-clause-cut
returns-in-End-clause-cut g c = λ is. absurd (not_cut (Ok tt) is)

pub returns-in-Failed-clause-cut : goal.returns-in-Failed-clause-cut
returns-in-Failed-clause-cut g c = λ is. absurd (not_cut (Err faults.Input) is)

pub returns-then-is_media-clause-cut : goal.returns-then-is_media-clause-cut
returns-then-is_media-clause-cut g c = λ is. absurd (not_cut (Err faults.Device) is)

pub returns-then-is_err-clause-cut : goal.returns-then-is_err-clause-cut
returns-then-is_err-clause-cut g c = λ is. absurd (not_cut (Err faults.Output) is)

pub returns-in-End-clause-way : goal.returns-in-End-clause-way
returns-in-End-clause-way g c = λ from w alive.
    at_end g.D.Sectors.history g.A.EventSource.source g.T.Replies.output from c.loop-asks.session.disk c.loop-asks.asks
    c.next.new.self c.loop-asks.out
    (c.loop-asks.invariant.way from w alive).1
    (was_asked g.D.Sectors.history g.A.EventSource.source c.loop-asks.asks c.next.new.self c.disk.result.now
    c.loop-asks.session.disk _ _ c.disk.ensures c.in-End.is c.next.ensures)

pub returns-in-Failed-clause-way : goal.returns-in-Failed-clause-way
returns-in-Failed-clause-way g c = λ from w alive.
    at_fault g.D.Sectors.history g.A.EventSource.source g.T.Replies.output from c.loop-asks.session.disk c.loop-asks.asks
    c.next.new.self c.loop-asks.out
    (c.loop-asks.invariant.way from w alive).1
    (was_asked g.D.Sectors.history g.A.EventSource.source c.loop-asks.asks c.next.new.self c.disk.result.now
    c.loop-asks.session.disk _ _ c.disk.ensures c.in-Failed.is c.next.ensures)

pub returns-then-is_some-clause-way : goal.returns-then-is_some-clause-way
returns-then-is_some-clause-way g c = λ from w alive.
    let before = c.loop-asks.invariant.way from w alive in
    let took = was_asked g.D.Sectors.history g.A.EventSource.source c.loop-asks.asks c.next.new.self c.disk.result.now
    c.loop-asks.session.disk _ _ c.disk.ensures c.in-Event.is c.next.ensures in (
      before.0,
      takes_one g.D.Sectors.history g.A.EventSource.source g.T.Replies.output from c.loop-asks.session.disk c.loop-asks.asks
          c.next.new.self c.loop-asks.out
          before.1 took.0 took.2,
    )

pub returns-then-is_some-clause-cut : goal.returns-then-is_some-clause-cut
returns-then-is_some-clause-cut g c = λ _.
    let took = was_asked g.D.Sectors.history g.A.EventSource.source c.loop-asks.asks c.next.new.self c.disk.result.now
    c.loop-asks.session.disk _ _ c.disk.ensures c.in-Event.is c.next.ensures in
    let fuel = took.1 in (
      some_cut _ c.cut.result _ c.cut.ensures (sym c.is_some.ensures ∙ c.if-is_some.true),
      omega
          (arith, c.loop-asks.invariant.fuel, fuel),
    )

pub returns-then-is_media-clause-way : goal.returns-then-is_media-clause-way
returns-then-is_media-clause-way = stopped.returns-then-is_media-clause-way

pub returns-then-is_err-clause-way : goal.returns-then-is_err-clause-way
returns-then-is_err-clause-way = stopped.returns-then-is_err-clause-way

pub loop-asks-preserved : goal.loop-asks-preserved
loop-asks-preserved g c =
    let h = g.D.Sectors.history in
    let a = g.A.EventSource.source in
    let o = g.T.Replies.output in
    let took = was_asked g.D.Sectors.history g.A.EventSource.source c.loop-asks.asks c.next.new.self c.disk.result.now
    c.loop-asks.session.disk _ _ c.disk.ensures c.in-Event.is c.next.ensures in
    let fuel = took.1 in
    let x = c.loop-asks.session.disk in
    let y = c.handle-reply.new.self.disk in
    let reply = c.handle-reply.result in
    let m = a.here c.next.new.self in
    record {
      fuel = omega (arith, c.loop-asks.invariant.fuel, fuel);
      way = λ from w alive.
          let before = c.loop-asks.invariant.way from w alive in
          goes_on h a o from x y c.next.new.self reply c.loop-asks.out c.tell-taken.new.self
          (c.handle-reply.new.self.dead ≡ false)
          (was_told o c.loop-asks.out c.tell-taken.new.self reply (instant_of h y) c.tell-taken.result
          (c.is_err.ensures.negation ∙ ap not c.if-is_err.false)
          (subst (λ d. IsTold o c.loop-asks.out c.tell-taken.new.self reply (instant_of h d) c.tell-taken.result)
          c.disk-in-loop-asks.ensures c.tell-taken.ensures))
          (λ t settled.
          let e = whole_done h c.loop-asks.session c.handle-reply.new.self c.message.result.now reply c.handle-reply.ensures t settled before.0 (λ is. false≢true (sym c.if-is_media.false
          ∙ c.is_media.ensures.1 is)) in (
            e.0,
            subst (λ n. IsEvent h t n x y (GoesOn h t n reply y))
                (is_whole m c.message.result.now c.message.ensures
                (no_cut _ c.cut.result _ c.cut.ensures (sym c.is_some.ensures ∙ c.if-is_some.false))) e.1,
          ))
          (λ _ t settled. subst (λ n. IsWithin h n x y)
          (is_whole m c.message.result.now c.message.ensures
          (no_cut _ c.cut.result _ c.cut.ensures (sym c.is_some.ensures ∙ c.if-is_some.false)))
          (whole_within h c.loop-asks.session c.handle-reply.new.self c.message.result.now reply c.handle-reply.ensures t settled))
          (subst (λ n. SparesTheDisk h n x y)
          (is_whole m c.message.result.now c.message.ensures
          (no_cut _ c.cut.result _ c.cut.ensures (sym c.is_some.ensures ∙ c.if-is_some.false)))
          (whole_spared h c.loop-asks.session c.handle-reply.new.self c.message.result.now reply c.handle-reply.ensures before.0))
          (subst (λ n. IsWithinMost h n x y)
          (is_whole m c.message.result.now c.message.ensures
          (no_cut _ c.cut.result _ c.cut.ensures (sym c.is_some.ensures ∙ c.if-is_some.false)))
          (whole_most h c.loop-asks.session c.handle-reply.new.self c.message.result.now reply c.handle-reply.ensures))
          (takes_one h a o from x c.loop-asks.asks c.next.new.self c.loop-asks.out before.1 took.0 took.2);
    }
