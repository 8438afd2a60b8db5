-- The channel is turned to the file, and then placed.
use Rattle.std.proofs.Common.{◌∙◌, ap, refl, subst, sym}
use Rattle.std.proofs.lemmas.Result.{err_from_is_err_and}
use Rattle.d64_image.specs.History.{TellsFailure}
use Rattle.host_session.proofs.lemmas.writing.Selection.{placed-after, reads-between, told-after}
use Rattle.host_session.proofs.lemmas.writing.Positions.{place-silent}
use Rattle.host_session.proofs.lemmas.writing.Channels.{known-placed}
use Rattle.rel_records.proofs.lemmas.Told.{not-done}
use Rattle.host_session.specs.shop.Putting.{IsInReach}
use Rattle.host_session.specs.shop.Selecting.{IsInFile}
use Rattle.host_session.specs.shop.Channels.{name_of}
use Rattle.host_session.proofs.shop.shop_drive.ShopDrive.select.Goals as goal

pub turn_to-requires-clause-ready : goal.turn_to-requires-clause-ready
turn_to-requires-clause-ready g c = c.requires.ready

pub turn_to-requires-clause-there : goal.turn_to-requires-clause-there
turn_to-requires-clause-there g c = let (l, n, f, p) = c.requires.reach in (l, n, f, p.layout, p.first)

pub returns-in_err-turn_to-clause-at : goal.returns-in_err-turn_to-clause-at
returns-in_err-turn_to-clause-at g c = λ l n f p. not-done c.from_residual.result _ c.from_residual.ensures.1 _

pub returns-in_err-turn_to-clause-quiet : goal.returns-in_err-turn_to-clause-quiet
returns-in_err-turn_to-clause-quiet g c = λ on. ap (λ d. d.disk) (c.in_err-turn_to.ensures.stays on).1

pub returns-in_err-turn_to-clause-reads : goal.returns-in_err-turn_to-clause-reads
returns-in_err-turn_to-clause-reads g c = c.in_err-turn_to.ensures.reads

pub returns-in_err-turn_to-clause-failures : goal.returns-in_err-turn_to-clause-failures
returns-in_err-turn_to-clause-failures g c =
    let p = err_from_is_err_and c.from_residual.result c.from_residual.ensures.1 in
    rw p.1 c.in_err-turn_to.ensures.failures

pub returns-in_err-turn_to-clause-dies : goal.returns-in_err-turn_to-clause-dies
returns-in_err-turn_to-clause-dies g c = λ failed. c.in_err-turn_to.ensures.dies refl

pub invariant_of-self : goal.invariant_of-self
invariant_of-self g c =
    let S = g.D.Sectors.history in
    let (l, n, f, p) = c.requires.reach in
    let at = subst (λ d. IsInFile d n) (sym c.self.view_is) (c.in_ok-turn_to.ensures.on l n f p.layout p.first) in
    known-placed S c.self.inside.drive c.command.new.self c.command.result (name_of c.args.file) c.placing.result
    c.args.number l n f c.self.inside.known
    at c.command.ensures.serves c.command.ensures.row c.placing.ensures
    (subst (λ d. IsInReach (S.image d.disk) (name_of c.args.file) c.args.number l n f) (sym c.self.view_is)
    (subst (λ i. IsInReach i (name_of c.args.file) c.args.number l n f) (sym c.turn_to.ensures.reads.image) p))
    (c.self.invariant at.alive)

pub returns-clause-at : goal.returns-clause-at
returns-clause-at g c = λ l n f p.
    let S = g.D.Sectors.history in
    placed-after S c.self.inside.drive c.command.new.self c.command.result (name_of c.args.file) c.placing.result
    c.args.number l n f
    (subst (λ d. IsInFile d n) (sym c.self.view_is) (c.in_ok-turn_to.ensures.on l n f p.layout p.first))
    c.command.ensures.serves c.command.ensures.row c.placing.ensures
    (subst (λ d. IsInReach (S.image d.disk) (name_of c.args.file) c.args.number l n f) (sym c.self.view_is)
    (subst (λ i. IsInReach i (name_of c.args.file) c.args.number l n f) (sym c.turn_to.ensures.reads.image) p))

pub returns-clause-reads : goal.returns-clause-reads
returns-clause-reads g c = reads-between g.D.Sectors.history c.args.self.now.disk c.args.self.now.disk
    c.turn_to.new.self.disk c.command.new.self.disk 2817
    refl c.turn_to.ensures.reads
    (c.command.ensures.silent (place-silent c.placing.result c.args.number c.placing.ensures)
    ∙ ap (λ d. d.disk) c.self.view_is)

pub returns-clause-failures : goal.returns-clause-failures
returns-clause-failures g c =
    let S = g.D.Sectors.history in
    let (l, n, f, p) = c.requires.reach in
    let at = subst (λ d. IsInFile d n) (sym c.self.view_is) (c.in_ok-turn_to.ensures.on l n f p.layout p.first) in
    told-after S c.args.self.now.disk c.turn_to.new.self.disk c.command.new.self.disk c.command.result
    c.in_ok-turn_to.ensures.failures
    (subst (λ d. TellsFailure S d.disk c.command.new.self.disk c.command.result) c.self.view_is
    (c.command.ensures.serves.failures at.alive))

pub returns-clause-dies : goal.returns-clause-dies
returns-clause-dies g c = c.command.ensures.serves.dies.1

pub returns-clause-quiet : goal.returns-clause-quiet
returns-clause-quiet g c = λ on.
    c.command.ensures.silent (place-silent c.placing.result c.args.number c.placing.ensures)
    ∙ ap (λ d. d.disk) c.self.view_is
    ∙ ap (λ d. d.disk) (c.turn_to.ensures.stays on).1
