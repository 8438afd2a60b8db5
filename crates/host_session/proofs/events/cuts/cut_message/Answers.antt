-- A message whose power goes.
use Rattle.std.proofs.Common.{◌≡◌, ◌∙◌, ap, arith, inl, inr, ⊎_elim, subst, sym}
use Rattle.d64_image.specs.Fuses.{fuse_disk}
use Rattle.host_session.specs.session.Handling.{IsBeforeOrAfter}
use Rattle.host_session.specs.shop.Shop.{IsShop}
use Rattle.host_session.proofs.lemmas.events.Cuts.{cut_most, cut_writes, message_cut}
use Rattle.host_session.proofs.events.cuts.cut_message.Goals as goal

pub returns-clause-writes : goal.returns-clause-writes
returns-clause-writes g c = λ s settled. cut_writes g.D.Sectors.history c.args.after 3618 c.args.session.disk
    c.into_inner.result
    c.fused-cut.result.disk c.handle.new.self.disk (IsBeforeOrAfter s c.args.message.now)
    c.fused-cut.ensures.disk (c.into_inner.ensures ∙ ap (λ f. f.disk) c.close.ensures) c.fused-cut.ensures.limit
    (c.handle.ensures.moments s (subst (λ d. IsShop (g.D.Sectors.history.image d) s) (sym c.fused-cut.ensures.disk)
    settled.shop))

pub returns-clause-most : goal.returns-clause-most
returns-clause-most g c = λ s settled. cut_most g.D.Sectors.history 3618 c.args.session.disk c.into_inner.result
    c.fused-cut.result.disk c.handle.new.self.disk (IsBeforeOrAfter s c.args.message.now)
    c.fused-cut.ensures.disk (c.into_inner.ensures ∙ ap (λ f. f.disk) c.close.ensures)
    (c.handle.ensures.moments s (subst (λ d. IsShop (g.D.Sectors.history.image d) s) (sym c.fused-cut.ensures.disk)
    settled.shop))

pub returns-clause-event : goal.returns-clause-event
returns-clause-event g c = λ s settled alive.
    let lives = c.fused-cut.ensures.dead ∙ alive in
    message_cut g.D.Sectors.history s c.args.message.now c.args.after c.args.session.disk c.into_inner.result
    c.fused-cut.result.disk c.handle.new.self.disk
    c.fused-cut.ensures.disk (c.into_inner.ensures ∙ ap (λ f. f.disk) c.close.ensures)
    c.fused-cut.ensures.left c.fused-cut.ensures.limit c.fused-cut.ensures.failures (settled.shop)
    (λ x. c.handle.ensures.moments s x)
    (λ x. c.handle.ensures.counted s x)
    (λ x asks. ap (λ v. v.disk) (c.handle.ensures.quiet s x lives asks).1)
    (λ x. ⊎_elim
    (λ m. ⊎_elim (λ dead. absurd (let e = sym dead ∙ lives in cc)) (λ failed. inl failed) m.2)
    (λ n. inr ((c.handle.ensures.reply s x lives n.0).1.shop))
    c.handle.ensures.failures)

pub returns-clause-spared : goal.returns-clause-spared
returns-clause-spared g c = λ alive s settled asks.
    let h = g.D.Sectors.history in
    let there = subst (λ d. IsShop (h.image d) s) (sym c.fused-cut.ensures.disk) settled.shop in
    let stays = c.handle.ensures.quiet s there (c.fused-cut.ensures.dead ∙ alive) asks in
    let same : c.into_inner.result ≡ c.args.session.disk =
    c.into_inner.ensures ∙ ap (λ f. fuse_disk f) c.close.ensures ∙ ap (λ v. fuse_disk v.disk) stays.1
    ∙ c.fused-cut.ensures.disk in
    let writes : h.writes c.into_inner.result ≡ h.writes c.args.session.disk = ap h.writes same in
    omega (arith, writes)
