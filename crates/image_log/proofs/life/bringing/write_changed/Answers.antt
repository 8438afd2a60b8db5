-- Sector after sector, and then the sync.
use Rattle.image_log.proofs.lemmas.life.Brought.{bring_landing, bring_moments, bringing_more, brought_landing, brought_moments, brought_ok}
use Rattle.image_log.proofs.life.bringing.write_changed.Goals as goal

pub returns-in_err-bring_sector-clause-any_moment : goal.returns-in_err-bring_sector-clause-any_moment
returns-in_err-bring_sector-clause-any_moment g c = bring_moments g.D.LogFolder.history c.args.folder.now c.loop-i.folder
    c.bring_sector.new.folder c.loop-i.i c.args.now.now c.args.shop.now c.loop-i.invariant c.bring_sector.ensures.any_moment

pub returns-in_err-bring_sector-clause-landing : goal.returns-in_err-bring_sector-clause-landing
returns-in_err-bring_sector-clause-landing g c = bring_landing g.D.LogFolder.history c.args.folder.now c.loop-i.folder
    c.bring_sector.new.folder c.loop-i.i c.args.now.now c.args.shop.now c.loop-i.invariant c.bring_sector.ensures.any_moment
    c.bring_sector.ensures.landing

pub loop-i-preserved : goal.loop-i-preserved
loop-i-preserved g c = bringing_more g.D.LogFolder.history c.args.folder.now c.loop-i.folder c.bring_sector.new.folder c.loop-i.i
    c.args.now.now c.args.shop.now c.loop-i.invariant c.bring_sector.ensures.any_moment c.bring_sector.ensures.landing
    c.loop-i-test.true c.in_ok-bring_sector.ensures.ok

pub returns-clause-any_moment : goal.returns-clause-any_moment
returns-clause-any_moment g c = brought_moments g.D.LogFolder.history c.args.folder.now c.loop-i.folder c.sync_image.new.self
    c.loop-i.i c.args.now.now c.args.shop.now c.loop-i.invariant c.sync_image.result c.sync_image.ensures

pub returns-clause-landing : goal.returns-clause-landing
returns-clause-landing g c = brought_landing g.D.LogFolder.history c.args.folder.now c.loop-i.folder c.sync_image.new.self
    c.loop-i.i c.args.now.now c.args.shop.now c.loop-i.invariant c.sync_image.result c.sync_image.ensures

pub returns-clause-ok : goal.returns-clause-ok
returns-clause-ok g c = brought_ok g.D.LogFolder.history c.args.folder.now c.loop-i.folder c.sync_image.new.self
    c.loop-i.i c.args.now.now c.args.shop.now c.loop-i.invariant c.sync_image.result c.sync_image.ensures
    c.loop-i-test.false c.requires.shop
