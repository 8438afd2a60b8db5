-- Each exit by the calls before it.
use Rattle.std.proofs.Common.{Some, refl}
use Rattle.one_host.proofs.Moments.{joined, weaker}
use Rattle.one_host.specs.History.{Until}
use Rattle.replaced_images.specs.Replaced.{Always, Gives}
use Rattle.replaced_images.proofs.Gave.{gives_of}
use Rattle.replaced_images.proofs.Called.{close_after, close_moments}
use Rattle.replaced_images.proofs.replacing.replace.Goals as goal

pub returns-in_err-file-clause-any_moment : goal.returns-in_err-file-clause-any_moment
returns-in_err-file-clause-any_moment g c k n logs old gives same at =
    let S = g.H.Host.history in
    let path = c.args.names.now.image.now in
    let new = c.args.new.now in
    let log = c.args.log.now in
    let i = c.args.image.number in
    let h0 = c.args.host.now in
    let h1 = c.make_log.new.host in
    let m1 = c.make_log.ensures.any_moment k n logs i old new at in
    m1

pub returns-in_err-name_log-clause-any_moment : goal.returns-in_err-name_log-clause-any_moment
returns-in_err-name_log-clause-any_moment g c k n logs old gives same at =
    let S = g.H.Host.history in
    let path = c.args.names.now.image.now in
    let new = c.args.new.now in
    let log = c.args.log.now in
    let i = c.args.image.number in
    let h0 = c.args.host.now in
    let h1 = c.make_log.new.host in
    let m1 = c.make_log.ensures.any_moment k n logs i old new at in
    let h2 = c.name_log.new.host in
    let l = c.in_ok-file.file.number in
    let at1 = c.in_ok-file.ensures.ok k n i old at in
    let m2 = c.name_log.ensures.any_moment k n logs i l log old new gives same at1 in
    joined S h0 h1 h2 (Until n (Gives logs path old new)) m1 m2

pub returns-in_err-land-clause-any_moment : goal.returns-in_err-land-clause-any_moment
returns-in_err-land-clause-any_moment g c k n logs old gives same at =
    let S = g.H.Host.history in
    let path = c.args.names.now.image.now in
    let new = c.args.new.now in
    let log = c.args.log.now in
    let i = c.args.image.number in
    let h0 = c.args.host.now in
    let h1 = c.make_log.new.host in
    let m1 = c.make_log.ensures.any_moment k n logs i old new at in
    let h2 = c.name_log.new.host in
    let l = c.in_ok-file.file.number in
    let at1 = c.in_ok-file.ensures.ok k n i old at in
    let m2 = c.name_log.ensures.any_moment k n logs i l log old new gives same at1 in
    let h3 = c.land.new.host in
    let at2 = c.in_ok-name_log.ensures.ok k n i l log old at1 in
    let m3 = weaker S h2 h3 (Until n (Always logs path new)) (Until n (Gives logs path old new)) (λ w x e. gives_of logs path old new w (x e)) (c.land.ensures.any_moment k n logs l log old gives same at2) in
    joined S h0 h2 h3 (Until n (Gives logs path old new)) (joined S h0 h1 h2 (Until n (Gives logs path old new)) m1 m2) m3

pub returns-in_err-close-clause-any_moment : goal.returns-in_err-close-clause-any_moment
returns-in_err-close-clause-any_moment g c k n logs old gives same at =
    let S = g.H.Host.history in
    let path = c.args.names.now.image.now in
    let new = c.args.new.now in
    let log = c.args.log.now in
    let i = c.args.image.number in
    let h0 = c.args.host.now in
    let h1 = c.make_log.new.host in
    let m1 = c.make_log.ensures.any_moment k n logs i old new at in
    let h2 = c.name_log.new.host in
    let l = c.in_ok-file.file.number in
    let at1 = c.in_ok-file.ensures.ok k n i old at in
    let m2 = c.name_log.ensures.any_moment k n logs i l log old new gives same at1 in
    let h3 = c.land.new.host in
    let at2 = c.in_ok-name_log.ensures.ok k n i l log old at1 in
    let m3 = weaker S h2 h3 (Until n (Always logs path new)) (Until n (Gives logs path old new)) (λ w x e. gives_of logs path old new w (x e)) (c.land.ensures.any_moment k n logs l log old gives same at2) in
    let at3 = c.in_ok-land.ensures.ok k n l log old same at2 in
    let h5 = c.close.new.self in
    let m5 = close_moments S n path i logs l log old new gives h3 h5 l _ at3 (c.close.ensures k) in
    joined S h0 h3 h5 (Until n (Gives logs path old new)) (joined S h0 h2 h3 (Until n (Gives logs path old new)) (joined S h0 h1 h2 (Until n (Gives logs path old new)) m1 m2) m3) m5

pub returns-clause-any_moment : goal.returns-clause-any_moment
returns-clause-any_moment g c k n logs old gives same at =
    let S = g.H.Host.history in
    let path = c.args.names.now.image.now in
    let new = c.args.new.now in
    let log = c.args.log.now in
    let i = c.args.image.number in
    let h0 = c.args.host.now in
    let h1 = c.make_log.new.host in
    let m1 = c.make_log.ensures.any_moment k n logs i old new at in
    let h2 = c.name_log.new.host in
    let l = c.in_ok-file.file.number in
    let at1 = c.in_ok-file.ensures.ok k n i old at in
    let m2 = c.name_log.ensures.any_moment k n logs i l log old new gives same at1 in
    let h3 = c.land.new.host in
    let at2 = c.in_ok-name_log.ensures.ok k n i l log old at1 in
    let m3 = weaker S h2 h3 (Until n (Always logs path new)) (Until n (Gives logs path old new)) (λ w x e. gives_of logs path old new w (x e)) (c.land.ensures.any_moment k n logs l log old gives same at2) in
    let at3 = c.in_ok-land.ensures.ok k n l log old same at2 in
    let h5 = c.close.new.self in
    let m5 = close_moments S n path i logs l log old new gives h3 h5 l _ at3 (c.close.ensures k) in
    joined S h0 h3 h5 (Until n (Gives logs path old new)) (joined S h0 h2 h3 (Until n (Gives logs path old new)) (joined S h0 h1 h2 (Until n (Gives logs path old new)) m1 m2) m3) m5

pub returns-clause-ok : goal.returns-clause-ok
returns-clause-ok g c k n old same at =
    let S = g.H.Host.history in
    let path = c.args.names.now.image.now in
    let new = c.args.new.now in
    let log = c.args.log.now in
    let i = c.args.image.number in
    let h0 = c.args.host.now in
    let h1 = c.make_log.new.host in
    let h2 = c.name_log.new.host in
    let l = c.in_ok-file.file.number in
    let at1 = c.in_ok-file.ensures.ok k n i old at in
    let at2 = c.in_ok-name_log.ensures.ok k n i l log old at1 in
    let h3 = c.land.new.host in
    let at3 = c.in_ok-land.ensures.ok k n l log old same at2 in
    let h5 = c.close.new.self in
    (l, close_after S n path i (λ _ _. Some new) l log old new (λ _ _. refl) h3 h5 l _ at3 (c.in_ok-close.ensures k))
