-- An opening whose power goes.
use Rattle.std.proofs.Common.{◌∙◌, ap, subst, sym}
use Rattle.d64_image.specs.Fuses.{fuse_disk}
use Rattle.host_session.proofs.lemmas.events.Cuts.{cut_later, cut_moments, cut_most, cut_writes}
use Rattle.host_session.proofs.lemmas.events.Quiet.{cut_quiet}
use Rattle.host_session.specs.shop.Shop.{IsShop}
use Rattle.host_session.proofs.events.cuts.cut_opening.Goals as goal

pub returns-in-Ok : goal.returns-in-Ok
returns-in-Ok g c = record {
  moments = λ s shop.
      cut_moments g.D.Sectors.history s 952 c.args.disk c.into_inner.result c.new.result c.in-Ok.session.disk
      c.new.ensures.disk
      (c.into_inner.ensures ∙ ap fuse_disk c.close.ensures) shop (c.in-Ok.ensures.moments s);
  writes = λ s shop.
      cut_writes g.D.Sectors.history c.args.writes 952 c.args.disk c.into_inner.result c.new.result c.in-Ok.session.disk
      (λ i. IsShop i s) c.new.ensures.disk
      (c.into_inner.ensures ∙ ap fuse_disk c.close.ensures) c.new.ensures.limit
      (c.in-Ok.ensures.moments s (subst (λ d. IsShop (g.D.Sectors.history.image d) s) (sym c.new.ensures.disk) shop));
  most = λ s shop.
      cut_most g.D.Sectors.history 952 c.args.disk c.into_inner.result c.new.result c.in-Ok.session.disk (λ i. IsShop i s)
      c.new.ensures.disk (c.into_inner.ensures ∙ ap fuse_disk c.close.ensures)
      (c.in-Ok.ensures.moments s (subst (λ d. IsShop (g.D.Sectors.history.image d) s) (sym c.new.ensures.disk) shop));
  later = λ s shop.
      cut_later g.D.Sectors.history s 952 c.args.disk c.into_inner.result c.new.result c.in-Ok.session.disk
      c.new.ensures.disk
      (c.into_inner.ensures ∙ ap fuse_disk c.close.ensures) shop (c.in-Ok.ensures.moments s);
  quiet = λ s rests.
      cut_quiet g.D.Sectors.history s c.args.disk c.into_inner.result c.new.result c.in-Ok.session.disk
      c.new.ensures.disk (c.into_inner.ensures ∙ ap fuse_disk c.close.ensures) rests (c.in-Ok.ensures.quiet s);
}

pub returns-in-Err : goal.returns-in-Err
returns-in-Err g c = record {
  moments = λ s shop.
      cut_moments g.D.Sectors.history s 952 c.args.disk c.into_inner-in-Err.result c.new.result c.in-Err.fuse
      c.new.ensures.disk
      c.into_inner-in-Err.ensures shop (c.in-Err.ensures.moments s);
  writes = λ s shop.
      cut_writes g.D.Sectors.history c.args.writes 952 c.args.disk c.into_inner-in-Err.result c.new.result c.in-Err.fuse
      (λ i. IsShop i s) c.new.ensures.disk
      c.into_inner-in-Err.ensures c.new.ensures.limit
      (c.in-Err.ensures.moments s (subst (λ d. IsShop (g.D.Sectors.history.image d) s) (sym c.new.ensures.disk) shop));
  most = λ s shop.
      cut_most g.D.Sectors.history 952 c.args.disk c.into_inner-in-Err.result c.new.result c.in-Err.fuse (λ i. IsShop i s)
      c.new.ensures.disk c.into_inner-in-Err.ensures
      (c.in-Err.ensures.moments s (subst (λ d. IsShop (g.D.Sectors.history.image d) s) (sym c.new.ensures.disk) shop));
  later = λ s shop.
      cut_later g.D.Sectors.history s 952 c.args.disk c.into_inner-in-Err.result c.new.result c.in-Err.fuse
      c.new.ensures.disk
      c.into_inner-in-Err.ensures shop (c.in-Err.ensures.moments s);
  quiet = λ s rests.
      cut_quiet g.D.Sectors.history s c.args.disk c.into_inner-in-Err.result c.new.result c.in-Err.fuse
      c.new.ensures.disk c.into_inner-in-Err.ensures rests (c.in-Err.ensures.quiet s);
}
