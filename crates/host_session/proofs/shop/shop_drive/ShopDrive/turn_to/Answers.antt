use Rattle.host_session.proofs.lemmas.writing.Selection.{nothing-read}
use Rattle.host_session.proofs.lemmas.writing.Channels.{known-entry}
use Rattle.host_session.proofs.shop.shop_drive.ShopDrive.turn_to.Goals as goal

pub returns-then-is_open-clause-on : goal.returns-then-is_open-clause-on
returns-then-is_open-clause-on g c = λ l n f is first.
    known-entry g.D.Sectors.history c.args.self.now c.args.file l n f
    (c.is_open.ensures.on c.if-is_open.true c.requires.ready.alive) c.requires.ready.alive is first

pub returns-then-is_open-clause-reads : goal.returns-then-is_open-clause-reads
returns-then-is_open-clause-reads g c = nothing-read g.D.Sectors.history c.args.self.now.disk 2817

pub returns-clause-stays : goal.returns-clause-stays
returns-clause-stays g c = λ on. absurd (c.is_open.ensures.off c.if-is_open.false c.requires.ready.alive on)
