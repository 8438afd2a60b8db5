-- The image's file is written, and then the log goes.
use Rattle.one_host.specs.History.{Until}
use Rattle.one_host.proofs.Moments.{joined, weaker}
use Rattle.replaced_images.specs.Replaced.{Always, Gives}
use Rattle.replaced_images.proofs.Gave.{always_of, gives_new}
use Rattle.replaced_images.proofs.replacing.land.Goals as goal

pub returns-in_err-unname_log-clause-any_moment : goal.returns-in_err-unname_log-clause-any_moment
returns-in_err-unname_log-clause-any_moment g c k n logs l log old gives same at =
    let S = g.H.Host.history in
    let path = c.args.names.now.image.now in
    let i = c.args.image.number in
    let new = c.args.new.now in
    let h0 = c.args.host.now in
    let h1 = c.write_image.new.host in
    let h2 = c.unname_log.new.host in
    let at1 = c.in_ok-write_image.ensures.ok k n l log old same at in
    joined S h0 h1 h2 (Until n (Always logs path new)) (c.write_image.ensures.any_moment k n logs l log old gives same at)
    (weaker S h1 h2 (Until n (Gives logs path new new)) (Until n (Always logs path new)) (λ w x e. always_of logs path new w (x e))
    (c.unname_log.ensures.any_moment k n logs i l log new new (gives_new logs log old new same gives) at1))

pub returns-clause-any_moment : goal.returns-clause-any_moment
returns-clause-any_moment g c k n logs l log old gives same at =
    let S = g.H.Host.history in
    let path = c.args.names.now.image.now in
    let i = c.args.image.number in
    let new = c.args.new.now in
    let h0 = c.args.host.now in
    let h1 = c.write_image.new.host in
    let h2 = c.unname_log.new.host in
    let at1 = c.in_ok-write_image.ensures.ok k n l log old same at in
    joined S h0 h1 h2 (Until n (Always logs path new)) (c.write_image.ensures.any_moment k n logs l log old gives same at)
    (weaker S h1 h2 (Until n (Gives logs path new new)) (Until n (Always logs path new)) (λ w x e. always_of logs path new w (x e))
    (c.unname_log.ensures.any_moment k n logs i l log new new (gives_new logs log old new same gives) at1))

pub returns-clause-ok : goal.returns-clause-ok
returns-clause-ok g c k n l log old same at =
    let S = g.H.Host.history in
    let path = c.args.names.now.image.now in
    let i = c.args.image.number in
    let new = c.args.new.now in
    let h0 = c.args.host.now in
    let h1 = c.write_image.new.host in
    let h2 = c.unname_log.new.host in
    let at1 = c.in_ok-write_image.ensures.ok k n l log old same at in
    c.in_ok-unname_log.ensures.ok k n i l log new at1
