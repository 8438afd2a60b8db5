use Rattle.std.proofs.Common.{refl, ap, sym, ◌∙◌}
use Rattle.drive_channels.proofs.Steady.{orderly, served, still-dead}
use Rattle.drive_channels.specs.Inside.{seen_of}
use Rattle.drive_channels.proofs.drive.Drive.status.Goals as goal

pub returns-then-self : goal.returns-then-self
returns-then-self g c = record {
  serves = still-dead g.D.Sectors.history c.args.self.now _ (sym (ap (λ d. d.dead) c.self.view_is) ∙ c.if-self.true);
  told = tt;
  row = tt;
  disk = refl;
}

pub returns : goal.returns
returns g c = record {
  serves = let S = g.D.Sectors.history in
      rw (← c.self.view_is) (served S (seen_of c.self.inside) _ _ c.if-self.false c.if-self.false refl
      (orderly S (record {
        disk = c.self.inside.disk;
        known = c.self.inside.known;
        status = _;
        dead = c.self.inside.dead;
      }) (c.self.invariant c.if-self.false)));
  told = ap (λ d. d.status) c.self.view_is;
  row = rw (← c.self.view_is) refl;
  disk = ap (λ d. d.disk) c.self.view_is;
}
