-- What the drive's write says, and the file that is known afterwards.
use Rattle.host_session.proofs.lemmas.writing.Channels.{known-written}
use Rattle.host_session.proofs.shop.shop_drive.ShopDrive.write.Goals as goal

pub invariant_of-self : goal.invariant_of-self
invariant_of-self g c = known-written g.D.Sectors.history c.self.inside.drive c.write.new.self c.write.result
    c.args.text.now c.self.inside.known
    c.write.ensures.serves c.write.ensures.row c.self.invariant

pub returns-clause-row : goal.returns-clause-row
returns-clause-row g c = rw (← c.self.view_is) c.write.ensures.row

pub returns-clause-moments : goal.returns-clause-moments
returns-clause-moments g c = rw (← c.self.view_is) c.write.ensures.moments

pub returns-clause-one_step : goal.returns-clause-one_step
returns-clause-one_step g c = rw (← c.self.view_is) c.write.ensures.one_step
