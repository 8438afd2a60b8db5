-- A message with a reset, and the whole ones behind it.
mod Stopped
use Rattle.std.proofs.Common.{◌≡◌, ◌∙◌, false, not, ap, subst, sym}
use Rattle.request_cards.specs.declared.reply.Reply.TheVariants.{Cut}
use Rattle.host_session.proofs.lemmas.runs.AskedTold.{cut_is, is_reset, no_none, was_told}
use Rattle.host_session.proofs.lemmas.runs.Looped.{goes_on}
use Rattle.host_session.specs.events.Instants.{instant_of}
use Rattle.host_session.specs.runs.Loops.{Ends, IsStretch, with_disk}
use Rattle.host_session.specs.events.OneEvent.{GoesOn, IsEvent}
use Rattle.host_session.specs.declared.runs.event_loop.LoopFault.TheVariants as faults
use Rattle.host_session.specs.events.Telling.{IsTold}
use Rattle.host_session.specs.events.Within.{IsWithinMost, SparesTheDisk}
use Rattle.host_session.proofs.runs.event_loop.run_on.Goals as goal
use Rattle.host_session.proofs.runs.event_loop.run_on.Answers.Stopped as stopped

pub returns-in-Err : goal.returns-in-Err
returns-in-Err = stopped.returns-in-Err

pub returns-then-is_err : goal.returns-then-is_err
returns-then-is_err = stopped.returns-then-is_err

pub loop-next-init : goal.loop-next-init
loop-next-init g c = record { cut = c.requires; way = λ from w alive. (alive, w) }

pub loop-next-smaller : goal.loop-next-smaller
loop-next-smaller g c = (c.whole_messages.ensures.cut c.in-Cut.is).1

pub loop-next-preserved : goal.loop-next-preserved
loop-next-preserved g c =
    let h = g.D.Sectors.history in
    let a = g.A.EventSource.source in
    let o = g.T.Replies.output in
    let x = c.loop-next.session.disk in
    let y = c.in-Ok.next.disk in
    let m = a.here c.loop-next.asks in
    let told = c.tell-in-loop-next in
    record {
      cut = (c.whole_messages.ensures.cut c.in-Cut.is).0;
      way = λ from w alive.
          let before = c.loop-next.invariant.way from w alive in
          let come = goes_on h a o from x y c.loop-next.asks Cut c.loop-next.out told.new.self
          (c.in-Ok.next.dead ≡ false)
          (was_told o c.loop-next.out told.new.self Cut (instant_of h y) told.result (c.is_err.ensures.negation
          ∙ ap not c.if-is_err.false)
          (subst (λ d. IsTold o c.loop-next.out told.new.self Cut (instant_of h d) told.result) c.disk.ensures
          told.ensures))
          (λ t settled.
          let e = c.in-Ok.ensures.done t settled before.0 in (
            e.0,
            subst (λ n. IsEvent h t n x y (GoesOn h t n Cut y))
                (is_reset m c.message.result.now _ c.message.ensures
                (cut_is _ c.cut.result c.unwrap-cut.result _ c.unwrap-cut.ensures c.cut.ensures)) e.1,
          ))
          (λ none. absurd (no_none _ _
          (cut_is _ c.cut.result c.unwrap-cut.result _ c.unwrap-cut.ensures c.cut.ensures) none))
          (subst (λ n. SparesTheDisk h n x y)
          (is_reset m c.message.result.now _ c.message.ensures
          (cut_is _ c.cut.result c.unwrap-cut.result _ c.unwrap-cut.ensures c.cut.ensures))
          (λ t settled. (c.in-Ok.ensures.done t settled before.0).2 t settled))
          (subst (λ n. IsWithinMost h n x y)
          (is_reset m c.message.result.now _ c.message.ensures
          (cut_is _ c.cut.result c.unwrap-cut.result _ c.unwrap-cut.ensures c.cut.ensures))
          (λ t settled. (c.in-Ok.ensures.done t settled before.0).3 t settled))
          before.1 in
          subst (IsStretch h a o from c.whole_messages.new.session c.whole_messages.new.asks c.whole_messages.new.out)
          c.in-Cut.is
          (c.whole_messages.ensures.way from come.1 come.0);
    }

pub returns-in-Ended : goal.returns-in-Ended
returns-in-Ended g c = λ from w alive.
    let h = g.D.Sectors.history in
    let a = g.A.EventSource.source in
    let o = g.T.Replies.output in
    let before = c.loop-next.invariant.way from w alive in
    let x = c.loop-next.session.disk in
    let y = c.in-Ok.next.disk in
    let m = a.here c.loop-next.asks in
    let told = c.tell-in-loop-next in
    let come = goes_on h a o from x y c.loop-next.asks Cut c.loop-next.out told.new.self (c.in-Ok.next.dead ≡ false)
    (was_told o c.loop-next.out told.new.self Cut (instant_of h y) told.result (c.is_err.ensures.negation
    ∙ ap not c.if-is_err.false)
    (subst (λ d. IsTold o c.loop-next.out told.new.self Cut (instant_of h d) told.result) c.disk.ensures told.ensures))
    (λ t settled.
    let e = c.in-Ok.ensures.done t settled before.0 in (
      e.0,
      subst (λ n. IsEvent h t n x y (GoesOn h t n Cut y))
          (is_reset m c.message.result.now _ c.message.ensures
          (cut_is _ c.cut.result c.unwrap-cut.result _ c.unwrap-cut.ensures c.cut.ensures)) e.1,
    ))
    (λ none. absurd (no_none _ _ (cut_is _ c.cut.result c.unwrap-cut.result _ c.unwrap-cut.ensures c.cut.ensures) none))
    (subst (λ n. SparesTheDisk h n x y)
    (is_reset m c.message.result.now _ c.message.ensures
    (cut_is _ c.cut.result c.unwrap-cut.result _ c.unwrap-cut.ensures c.cut.ensures))
    (λ t settled. (c.in-Ok.ensures.done t settled before.0).2 t settled))
    (subst (λ n. IsWithinMost h n x y)
    (is_reset m c.message.result.now _ c.message.ensures
    (cut_is _ c.cut.result c.unwrap-cut.result _ c.unwrap-cut.ensures c.cut.ensures))
    (λ t settled. (c.in-Ok.ensures.done t settled before.0).3 t settled))
    before.1 in
    let stretch =
    subst (IsStretch h a o from c.whole_messages.new.session c.whole_messages.new.asks c.whole_messages.new.out)
    c.in-Ended.is
    (c.whole_messages.ensures.way from come.1 come.0) in
    subst (Ends h a o from c.whole_messages.new.asks c.whole_messages.new.out)
    (ap (λ d. with_disk d c.in-Ended.end) (sym c.close-in-Ended.ensures) ∙ sym c.ended.ensures) stretch
