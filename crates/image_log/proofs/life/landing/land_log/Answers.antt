-- The log is judged, closed, and landed.
use Rattle.std.proofs.Common.{◌≡◌, Err, rules}
use Rattle.image_log.proofs.lemmas.life.Landed.{judged_moments, judged_ok, left_found, left_moments}
use Rattle.image_log.proofs.lemmas.life.Steps.{joined}
use Rattle.image_log.proofs.lemmas.life.Viewed.{if_err_of}
use Rattle.image_log.specs.life.Shops.{GivesOneOf}
use Rattle.image_log.proofs.life.landing.land_log.Goals as goal

pub returns-in_err-judged-clause-refused : goal.returns-in_err-judged-clause-refused
returns-in_err-judged-clause-refused g c =
    let same : c.from_residual.result ≡ Err c.in_err-judged.field-0.0 = search rules in
    if_err_of _ c.from_residual.result c.in_err-judged.field-0.0 same
    (λ misfit. (c.leave_log.ensures.held, λ f is given gives. c.in_err-judged.ensures.refused misfit f is given gives))

pub returns-in_err-judged-clause-any_moment : goal.returns-in_err-judged-clause-any_moment
returns-in_err-judged-clause-any_moment g c shops s f there is log image =
    left_moments g.D.LogFolder.history c.args.folder.now c.leave_log.new.self _ c.leave_log.ensures shops s there

pub returns-in_err-land_found-clause-any_moment : goal.returns-in_err-land_found-clause-any_moment
returns-in_err-land_found-clause-any_moment g c shops s f there is log image =
    joined g.D.LogFolder.history c.args.folder.now c.leave_log.new.self c.land_found.new.folder (GivesOneOf shops)
    (left_moments g.D.LogFolder.history c.args.folder.now c.leave_log.new.self _ c.leave_log.ensures shops s there)
    (judged_moments g.D.LogFolder.history c.leave_log.new.self c.land_found.new.folder c.args.now.now c.image_of_log-judged.new.shop f
    (c.in_ok-judged.ensures.ok f is) c.land_found.ensures.any_moment shops s
    (left_found g.D.LogFolder.history c.args.folder.now c.leave_log.new.self _ c.leave_log.ensures shops s there) log image)

pub returns-clause-any_moment : goal.returns-clause-any_moment
returns-clause-any_moment g c shops s f there is log image =
    joined g.D.LogFolder.history c.args.folder.now c.leave_log.new.self c.land_found.new.folder (GivesOneOf shops)
    (left_moments g.D.LogFolder.history c.args.folder.now c.leave_log.new.self _ c.leave_log.ensures shops s there)
    (judged_moments g.D.LogFolder.history c.leave_log.new.self c.land_found.new.folder c.args.now.now c.image_of_log-judged.new.shop f
    (c.in_ok-judged.ensures.ok f is) c.land_found.ensures.any_moment shops s
    (left_found g.D.LogFolder.history c.args.folder.now c.leave_log.new.self _ c.leave_log.ensures shops s there) log image)

pub returns-clause-ok : goal.returns-clause-ok
returns-clause-ok g c shops s f there is log image =
    judged_ok g.D.LogFolder.history c.leave_log.new.self c.land_found.new.folder c.args.now.now c.image_of_log-judged.new.shop f
    (c.in_ok-judged.ensures.ok f is) c.in_ok-land_found.ensures.ok shops s
    (left_found g.D.LogFolder.history c.args.folder.now c.leave_log.new.self _ c.leave_log.ensures shops s there) log image
