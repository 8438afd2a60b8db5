-- The tables tell how a request stands in the shop; what isn't its till's next one changes nothing.
use Rattle.std.proofs.Common.{ap, sym, ◌∙◌, refl}
use Rattle.std.proofs.lemmas.Bool.{false≢true}
use Rattle.host_session.specs.session.Standing.{View}
use Rattle.host_session.proofs.lemmas.session.Settled.{told-next, told-settled, told-word}
use Rattle.host_session.proofs.session.Session.word_on.Goals as goal

pub answer-requires-clause-next : goal.answer-requires-clause-next
answer-requires-clause-next g c =
    told-next g.D.Sectors.history c.args.self.now _
    (sym (ap (λ (v : View _). g.D.Sectors.history.image v.disk) c.self.view_is)) c.self.inside.dead
    c.self.inside.ledger c.self.invariant.0 (ap (λ (v : View _). v.dead) c.self.view_is
    ∙ c.requires.alive) c.args.request.now c.requires.ask.number_low (sym c.standing.ensures.exact ∙ c.in-New.is)

pub returns-in-Settled-clause-quiet : goal.returns-in-Settled-clause-quiet
returns-in-Settled-clause-quiet g c = λ s h other. (
  told-word g.D.Sectors.history c.args.self.now _
      (sym (ap (λ (v : View _). g.D.Sectors.history.image v.disk) c.self.view_is)) c.self.inside.dead c.self.inside.ledger c.self.invariant.0 (ap (λ (v : View _). v.dead) c.self.view_is
      ∙ c.requires.alive) c.args.request.now c.in-Settled.word (sym c.standing.ensures.exact ∙ c.in-Settled.is) s h,
  refl,
)

pub returns-in-Settled-clause-answered : goal.returns-in-Settled-clause-answered
returns-in-Settled-clause-answered g c =
    told-settled g.D.Sectors.history c.args.self.now _
    (sym (ap (λ (v : View _). g.D.Sectors.history.image v.disk) c.self.view_is)) c.self.inside.dead
    c.self.inside.ledger c.self.invariant.0 (ap (λ (v : View _). v.dead) c.self.view_is
    ∙ c.requires.alive) c.args.request.now c.in-Settled.word (sym c.standing.ensures.exact ∙ c.in-Settled.is)
    c.requires.alive

pub returns-in-New-clause-quiet : goal.returns-in-New-clause-quiet
returns-in-New-clause-quiet g c = λ s h other. absurd (false≢true (sym other
    ∙ told-next g.D.Sectors.history c.args.self.now _
    (sym (ap (λ (v : View _). g.D.Sectors.history.image v.disk) c.self.view_is)) c.self.inside.dead
    c.self.inside.ledger c.self.invariant.0 (ap (λ (v : View _). v.dead) c.self.view_is
    ∙ c.requires.alive) c.args.request.now c.requires.ask.number_low (sym c.standing.ensures.exact ∙ c.in-New.is) s h))
