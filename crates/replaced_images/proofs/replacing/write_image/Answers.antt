-- Each exit by the calls before it.
use Rattle.std.proofs.Common.{◌≤◌, length, Some, arith, refl}
use Rattle.one_host.specs.History.{Until}
use Rattle.one_host.proofs.Moments.{joined}
use Rattle.replaced_images.specs.Replaced.{Always}
use Rattle.replaced_images.proofs.Written.{last_after, last_moments}
use Rattle.replaced_images.proofs.replacing.write_image.Goals as goal

pub returns-in_err-sync-clause-any_moment : goal.returns-in_err-sync-clause-any_moment
returns-in_err-sync-clause-any_moment g c k n logs l log old gives same at =
    let S = g.H.Host.history in
    let path = c.args.names.now.image.now in
    let i = c.args.image.number in
    let new = c.args.new.now in
    let h0 = c.args.host.now in
    let h1 = c.write_sectors.new.host in
    let h2 = c.sync.new.self in
    let le : length c.args.new.now ≤ 174848 = omega (arith, c.requires.sized) in
    joined S h0 h1 h2 (Until n (Always logs path new)) (c.write_sectors.ensures.any_moment k n logs l log old gives same at)
    (last_moments S n path i logs l log old new gives same h1 h2 174848 le _ (c.in_ok-write_sectors.ensures.ok k n l log old same at) (c.sync.ensures k))

pub returns-clause-any_moment : goal.returns-clause-any_moment
returns-clause-any_moment g c k n logs l log old gives same at =
    let S = g.H.Host.history in
    let path = c.args.names.now.image.now in
    let i = c.args.image.number in
    let new = c.args.new.now in
    let h0 = c.args.host.now in
    let h1 = c.write_sectors.new.host in
    let h2 = c.sync.new.self in
    let le : length c.args.new.now ≤ 174848 = omega (arith, c.requires.sized) in
    joined S h0 h1 h2 (Until n (Always logs path new)) (c.write_sectors.ensures.any_moment k n logs l log old gives same at)
    (last_moments S n path i logs l log old new gives same h1 h2 174848 le _ (c.in_ok-write_sectors.ensures.ok k n l log old same at) (c.sync.ensures k))

pub returns-clause-ok : goal.returns-clause-ok
returns-clause-ok g c k n l log old same at =
    let S = g.H.Host.history in
    let path = c.args.names.now.image.now in
    let i = c.args.image.number in
    let new = c.args.new.now in
    let h0 = c.args.host.now in
    let h1 = c.write_sectors.new.host in
    let h2 = c.sync.new.self in
    let le : length c.args.new.now ≤ 174848 = omega (arith, c.requires.sized) in
    last_after S n path i (λ _ _. Some new) l log old new (λ _ _. refl) same h1 h2 174848 le _ (c.in_ok-write_sectors.ensures.ok k n l log old same at) (c.in_ok-sync.ensures k)
