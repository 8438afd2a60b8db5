-- This file is known; or another one, or none.
use Rattle.std.proofs.Common.{◌≡◌, ◌∙◌, refl, subst, sym, false}
use Rattle.host_session.proofs.lemmas.writing.Channels.{known-differs, known-off, known-same}
use Rattle.host_session.specs.shop.Channels.{IsKnownOn, IsOn}
use Rattle.host_session.proofs.shop.shop_drive.ShopDrive.is_open.Goals as goal

pub returns-clause-on : goal.returns-clause-on
returns-clause-on g c = λ same alive.
    let S = g.D.Sectors.history in
    subst (λ d. IsOn S d c.args.file) c.self.view_is
    (subst (IsKnownOn S c.self.inside.drive)
    (known-same _ refl refl c.self.inside.known c.args.file (sym c.eq.ensures ∙ same))
    (c.self.invariant (subst (λ d. d.dead ≡ false) (sym c.self.view_is) alive)))

pub returns-clause-off : goal.returns-clause-off
returns-clause-off g c = λ differ alive on.
    let S = g.D.Sectors.history in
    known-off S c.self.inside.drive c.self.inside.known c.args.file
    (known-differs _ refl refl c.self.inside.known c.args.file (sym c.eq.ensures ∙ differ))
    (c.self.invariant (subst (λ d. d.dead ≡ false) (sym c.self.view_is) alive))
    (subst (λ d. IsOn S d c.args.file) (sym c.self.view_is) on)
