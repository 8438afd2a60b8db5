-- The disk beneath the fuse is the session's, and the drive over it begins anew.
use Rattle.std.proofs.Common.{◌≡◌, ◌∙◌, ap, subst, sym}
use Rattle.d64_image.specs.Fuses.{fuse_disk}
use Rattle.disk_layout.specs.Clean.{IsClean}
use Rattle.host_session.specs.session.Standing.{IsStanding}
use Rattle.host_session.proofs.session.Session.fused.Goals as goal

pub invariant_of-result : goal.invariant_of-result
invariant_of-result g c =
    let h = g.D.Sectors.history in
    let s = c.self.inside in
    let same : fuse_disk c.power_on.result.disk ≡ s.drive.disk = ap fuse_disk c.power_on.ensures.disk
    ∙ c.new.ensures.disk ∙ c.into_disk.ensures in (
      subst (λ d. IsStanding (h.image d) s.dead s.ledger) (sym same)
          c.self.invariant.0,
      λ alive. record {
        alive = c.power_on.ensures.alive;
        clean = subst (λ d. IsClean (h.image d)) (sym same) (c.self.invariant.1 alive).clean;
        free = λ x e. let none = sym c.power_on.ensures.channel ∙ e in cc;
      },
    )
