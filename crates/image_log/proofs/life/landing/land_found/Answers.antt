-- The mark, IMAGE, and the name.
use Rattle.image_log.proofs.lemmas.life.Landed.{bring_landed, land_ok, landed}
use Rattle.image_log.proofs.life.landing.land_found.Goals as goal

pub returns-in_err-mark_found-clause-any_moment : goal.returns-in_err-mark_found-clause-any_moment
returns-in_err-mark_found-clause-any_moment g c shops s f found log now gives = c.mark_found.ensures.any_moment shops s f found log

pub returns-in_err-write_changed-clause-any_moment : goal.returns-in_err-write_changed-clause-any_moment
returns-in_err-write_changed-clause-any_moment g c shops s f found log now gives =
    bring_landed g.D.LogFolder.history c.args.folder.now c.mark_found.new.folder shops s f c.args.shop.now found log gives
    (c.mark_found.ensures.any_moment shops s f found log) (c.in_ok-mark_found.ensures.ok shops s f found log)
    c.write_changed.new.folder c.write_changed.ensures.any_moment

pub returns-clause-any_moment : goal.returns-clause-any_moment
returns-clause-any_moment g c shops s f found log now gives =
    landed g.D.LogFolder.history c.args.folder.now c.mark_found.new.folder shops s f c.args.shop.now found log gives
    (c.mark_found.ensures.any_moment shops s f found log) (c.in_ok-mark_found.ensures.ok shops s f found log)
    c.write_changed.new.folder c.write_changed.ensures.any_moment c.args.now.now now c.write_changed.ensures.landing c.in_ok-write_changed.ensures.ok
    c.unlog.new.folder c.unlog.ensures.any_moment

pub returns-clause-ok : goal.returns-clause-ok
returns-clause-ok g c = land_ok g.D.LogFolder.history c.args.folder.now c.mark_found.new.folder c.write_changed.new.folder
    c.unlog.new.folder c.args.now.now c.args.shop.now c.mark_found.ensures.any_moment c.in_ok-mark_found.ensures.ok
    c.write_changed.ensures.any_moment c.write_changed.ensures.landing c.in_ok-write_changed.ensures.ok c.unlog.result c.unlog.ensures.ok
