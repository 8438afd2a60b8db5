use Rattle.std.proofs.Common.{ap, sym}
use Rattle.host_session.specs.session.Standing.{View}
use Rattle.host_session.proofs.lemmas.shop.Shops.{standing-tills}
use Rattle.host_session.proofs.session.Session.tills.Goals as goal

pub returns : goal.returns
returns g c = standing-tills _ _ _ _ (sym (ap (λ (v : View _). g.D.Sectors.history.image v.disk) c.self.view_is))
    c.self.invariant.0
