-- Where the sector is the same, nothing changes.
use Rattle.std.proofs.Common.{sym}
use Rattle.std.proofs.lemmas.Slice.Eq.{bytes_eq-Decides}
use Rattle.image_log.proofs.lemmas.life.Brought.{same_sector, written_landing, written_moments}
use Rattle.image_log.proofs.life.bringing.bring_sector.Goals as goal

pub returns-then-eq-clause-ok : goal.returns-then-eq-clause-ok
returns-then-eq-clause-ok g c s held is = same_sector (g.D.LogFolder.history.held c.args.folder.now) s c.args.index c.args.now.now
    c.args.sector.now is ((bytes_eq-Decides c.args.now.now c.args.sector.now).0 (sym c.if-eq.ensures)) held

pub returns-clause-any_moment : goal.returns-clause-any_moment
returns-clause-any_moment g c log base shop is all = written_moments g.D.LogFolder.history log base shop c.args.folder.now
    c.write_sector.new.self c.args.index c.args.sector.now is c.write_sector.result c.write_sector.ensures.acts all

pub returns-clause-landing : goal.returns-clause-landing
returns-clause-landing g c log base shop is all = written_landing g.D.LogFolder.history log base shop c.args.folder.now
    c.write_sector.new.self c.args.index c.args.sector.now is c.write_sector.result c.write_sector.ensures.acts all
