-- The folder is read, and the image is replaced.
use Rattle.std.proofs.Common.{subst, sym}
use Rattle.image_log.specs.life.Bringing.{RestsWith}
use Rattle.image_log.proofs.lemmas.life.Superseded.{found_moments, superseded}
use Rattle.image_log.proofs.life.superseding.supersede.Goals as goal

pub returns-in_err-image_found-clause-any_moment : goal.returns-in_err-image_found-clause-any_moment
returns-in_err-image_found-clause-any_moment g c log before rests = found_moments g.D.LogFolder.history c.args.folder.now
    c.image_found.new.folder log before c.args.shop.now rests c.image_found.ensures.any_moment

pub returns-in-Ok-clause-any_moment : goal.returns-in-Ok-clause-any_moment
returns-in-Ok-clause-any_moment g c log before rests = superseded g.D.LogFolder.history c.args.folder.now c.image_found.new.folder
    log before c.args.shop.now rests c.image_found.ensures.any_moment c.replace.new.folder c.image_found.new.now
    (c.in_ok-image_found.ensures.ok log before rests) (c.replace.ensures.any_moment log)

pub returns-in-Err-clause-any_moment : goal.returns-in-Err-clause-any_moment
returns-in-Err-clause-any_moment g c log before rests = superseded g.D.LogFolder.history c.args.folder.now c.image_found.new.folder
    log before c.args.shop.now rests c.image_found.ensures.any_moment c.replace.new.folder c.image_found.new.now
    (c.in_ok-image_found.ensures.ok log before rests) (c.replace.ensures.any_moment log)

pub returns-in-Ok-clause-ok : goal.returns-in-Ok-clause-ok
returns-in-Ok-clause-ok g c log before rests =
    let found = c.in_ok-image_found.ensures.ok log before rests in
    c.in-Ok.ensures.ok log (subst (λ i. RestsWith g.D.LogFolder.history c.image_found.new.folder log i) (sym found.1) found.0)
