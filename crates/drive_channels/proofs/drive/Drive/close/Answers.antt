use Rattle.std.proofs.Common.{refl}
use Rattle.drive_channels.proofs.Steady.{orderly, served}
use Rattle.drive_channels.specs.Inside.{seen_of}
use Rattle.drive_channels.proofs.drive.Drive.close.Goals as goal

pub returns-clause-serves : goal.returns-clause-serves
returns-clause-serves g c =
    let S = g.D.Sectors.history in
    rw (← c.self.view_is) (served S (seen_of c.self.inside) _ _ c.if-self.false c.if-self.false refl
    (orderly S (record { disk = c.self.inside.disk; known = c.close.new.self; status = _; dead = c.self.inside.dead })
    (c.close.ensures.known (S.image c.self.inside.disk) (c.self.invariant c.if-self.false))))
