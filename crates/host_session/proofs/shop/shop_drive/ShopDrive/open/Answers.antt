use Rattle.std.proofs.Common.{◌∙◌, ap, inl, refl, subst, sym}
use Rattle.std.proofs.lemmas.Bool.{false≢true}
use Rattle.std.proofs.lemmas.Result.{err_from_is_err_and}
use Rattle.d64_image.proofs.Moments.{failed_later}
use Rattle.disk_layout.specs.Layout.{IsLayout}
use Rattle.drive_channels.proofs.Wishes.{name-plain}
use Rattle.host_session.proofs.lemmas.writing.Selection.{alive-of, nothing-read, reads-between}
use Rattle.host_session.proofs.lemmas.writing.Channels.{opened-inside, opened-on}
use Rattle.rel_records.proofs.lemmas.Told.{not-done}
use Rattle.host_session.specs.shop.Selecting.{IsReady}
use Rattle.host_session.proofs.shop.shop_drive.ShopDrive.open.Goals as goal

pub returns-in_err-close-clause-reads : goal.returns-in_err-close-clause-reads
returns-in_err-close-clause-reads g c =
    let S = g.D.Sectors.history in
    let d = c.self.inside.drive.disk in
    rw (← c.self.view_is) (reads-between S d d d c.close.new.self.disk 2817 refl (nothing-read S d 2817)
    c.close.ensures.disk)

pub returns-in_err-open-clause-reads : goal.returns-in_err-open-clause-reads
returns-in_err-open-clause-reads g c = rw (← c.self.view_is)
    (reads-between g.D.Sectors.history c.self.inside.drive.disk c.close.new.self.disk c.open.new.self.disk
    c.open.new.self.disk 2817
    c.close.ensures.disk (c.open.ensures.quiet (inl (name-plain c.name.result.now c.name.ensures.name))) refl)

pub returns-in_err-open-clause-failures : goal.returns-in_err-open-clause-failures
returns-in_err-open-clause-failures g c =
    let S = g.D.Sectors.history in
    let alive = alive-of S c.self.inside.drive c.close.new.self _ c.in_ok-close.ensures.serves in
    let p = err_from_is_err_and c.from_residual-in_err-open.result c.from_residual-in_err-open.ensures.1 in
    rw p.1 (rw (← c.self.view_is) (failed_later S c.self.inside.drive.disk c.close.new.self.disk c.open.new.self.disk
    (ap (λ d. S.failures d) c.close.ensures.disk) (c.in_err-open.ensures.serves.failures alive)))

pub invariant_of-self : goal.invariant_of-self
invariant_of-self g c = λ alive. absurd (false≢true (sym alive ∙ c.in_err-close.ensures.serves.dies.1 refl))

pub invariant_of-self-in_err-open : goal.invariant_of-self-in_err-open
invariant_of-self-in_err-open g c = λ alive.
    absurd (false≢true (sym alive ∙ c.in_err-open.ensures.serves.dies.1 refl))

pub returns-in_err-close-clause-failures : goal.returns-in_err-close-clause-failures
returns-in_err-close-clause-failures g c =
    let alive = ap (λ d. d.dead) c.self.view_is ∙ c.requires.ready.alive in
    let p = err_from_is_err_and c.from_residual.result c.from_residual.ensures.1 in
    rw p.1 (rw (← c.self.view_is) (c.in_err-close.ensures.serves.failures alive))

pub invariant_of-self-2 : goal.invariant_of-self-2
invariant_of-self-2 g c = λ alive.
    let S = g.D.Sectors.history in
    let t = c.requires.there in
    opened-on S c.self.inside.drive c.close.new.self c.open.new.self c.args.file c.name.result.now t.0 t.1 t.2
    (subst (λ d. IsReady S d) (sym c.self.view_is) c.requires.ready) c.name.ensures.value c.name.ensures.name
    c.in_ok-close.ensures.row c.in_ok-open.ensures.row alive
    (subst (λ d. IsLayout (S.image d.disk) t.0) (sym c.self.view_is) t.3) t.4

pub returns-clause-on : goal.returns-clause-on
returns-clause-on g c = λ l n f is first.
    let S = g.D.Sectors.history in
    opened-inside S c.self.inside.drive c.close.new.self c.open.new.self c.args.file c.name.result.now l n f
    (subst (λ d. IsReady S d) (sym c.self.view_is) c.requires.ready) c.name.ensures.value c.name.ensures.name
    c.in_ok-close.ensures.row c.in_ok-open.ensures.row
    (alive-of S c.close.new.self c.open.new.self _ c.in_ok-open.ensures.serves)
    (subst (λ d. IsLayout (S.image d.disk) l) (sym c.self.view_is) is) first

pub returns-clause-reads : goal.returns-clause-reads
returns-clause-reads g c = rw (← c.self.view_is)
    (reads-between g.D.Sectors.history c.self.inside.drive.disk c.close.new.self.disk c.open.new.self.disk
    c.open.new.self.disk 2817
    c.close.ensures.disk (c.open.ensures.quiet (inl (name-plain c.name.result.now c.name.ensures.name))) refl)

pub returns-clause-failures : goal.returns-clause-failures
returns-clause-failures g c =
    let S = g.D.Sectors.history in
    let alive = alive-of S c.self.inside.drive c.close.new.self _ c.in_ok-close.ensures.serves in
    rw (← c.self.view_is) (c.in_ok-open.ensures.serves.failures alive ∙ ap (λ d. S.failures d) c.close.ensures.disk)

pub returns-in_err-close-clause-on : goal.returns-in_err-close-clause-on
returns-in_err-close-clause-on g c = λ l n f is first. not-done c.from_residual.result _ c.from_residual.ensures.1 _

pub returns-in_err-close-clause-dies : goal.returns-in_err-close-clause-dies
returns-in_err-close-clause-dies g c = λ failed. c.in_err-close.ensures.serves.dies.1 refl

pub returns-in_err-open-clause-on : goal.returns-in_err-open-clause-on
returns-in_err-open-clause-on g c = λ l n f is first. not-done c.from_residual-in_err-open.result _
    c.from_residual-in_err-open.ensures.1 _

pub returns-in_err-open-clause-dies : goal.returns-in_err-open-clause-dies
returns-in_err-open-clause-dies g c = λ failed. c.in_err-open.ensures.serves.dies.1 refl

pub returns-clause-dies : goal.returns-clause-dies
returns-clause-dies g c = λ failed. absurd (false≢true failed)
