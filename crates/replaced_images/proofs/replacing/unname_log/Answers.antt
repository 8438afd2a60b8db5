-- Each exit by the calls before it.
use Rattle.std.proofs.Common.{Some, refl}
use Rattle.one_host.specs.Calls.{turned}
use Rattle.one_host.specs.declared.parts.Entry.TheVariants.{Leads, Nothing}
use Rattle.one_host.proofs.Moments.{joined}
use Rattle.one_host.specs.History.{Until}
use Rattle.replaced_images.specs.Replaced.{Gives, whole}
use Rattle.replaced_images.proofs.Called.{folder_after, folder_moments, gone_is, remove_after, remove_moments, unnamed_is}
use Rattle.replaced_images.proofs.replacing.unname_log.Goals as goal

pub returns-in_err-remove-clause-any_moment : goal.returns-in_err-remove-clause-any_moment
returns-in_err-remove-clause-any_moment g c k n logs i l log old new gives at =
    let S = g.H.Host.history in
    let path = c.args.names.now.image.now in
    let named = c.requires.log in
    let h0 = c.args.host.now in
    let h1 = c.remove.new.self in
    let m1 = remove_moments S n path i logs l log old new gives h0 h1 _ named _ at (c.remove.ensures k) in
    m1

pub returns-in_err-sync_folder-clause-any_moment : goal.returns-in_err-sync_folder-clause-any_moment
returns-in_err-sync_folder-clause-any_moment g c k n logs i l log old new gives at =
    let S = g.H.Host.history in
    let path = c.args.names.now.image.now in
    let named = c.requires.log in
    let h0 = c.args.host.now in
    let h1 = c.remove.new.self in
    let h2 = c.sync_folder.new.self in
    let m1 = remove_moments S n path i logs l log old new gives h0 h1 _ named _ at (c.remove.ensures k) in
    let at1 = remove_after S n path i logs l log old new gives h0 h1 _ named _ at (c.in_ok-remove.ensures k) in
    let m2 = folder_moments S n path i logs l log old new gives h1 h2 (whole new) (turned (whole (Leads l)) Nothing) (unnamed_is S n path i logs l log old new gives h1 h2) (gone_is S n path i logs l log old new gives h1 h2) _ at1 (c.sync_folder.ensures k) in
    joined S h0 h1 h2 (Until n (Gives logs path old new)) m1 m2

pub returns-clause-any_moment : goal.returns-clause-any_moment
returns-clause-any_moment g c k n logs i l log old new gives at =
    let S = g.H.Host.history in
    let path = c.args.names.now.image.now in
    let named = c.requires.log in
    let h0 = c.args.host.now in
    let h1 = c.remove.new.self in
    let h2 = c.sync_folder.new.self in
    let m1 = remove_moments S n path i logs l log old new gives h0 h1 _ named _ at (c.remove.ensures k) in
    let at1 = remove_after S n path i logs l log old new gives h0 h1 _ named _ at (c.in_ok-remove.ensures k) in
    let m2 = folder_moments S n path i logs l log old new gives h1 h2 (whole new) (turned (whole (Leads l)) Nothing) (unnamed_is S n path i logs l log old new gives h1 h2) (gone_is S n path i logs l log old new gives h1 h2) _ at1 (c.sync_folder.ensures k) in
    joined S h0 h1 h2 (Until n (Gives logs path old new)) m1 m2

pub returns-clause-ok : goal.returns-clause-ok
returns-clause-ok g c k n i l log new at =
    let S = g.H.Host.history in
    let path = c.args.names.now.image.now in
    let named = c.requires.log in
    let h0 = c.args.host.now in
    let h1 = c.remove.new.self in
    let h2 = c.sync_folder.new.self in
    let at1 = remove_after S n path i (λ _ _. Some new) l log new new (λ _ _. refl) h0 h1 _ named _ at (c.in_ok-remove.ensures k) in
    folder_after S n path i (λ _ _. Some new) l log new new (λ _ _. refl) h1 h2 (whole new) (turned (whole (Leads l)) Nothing) _ at1 (c.in_ok-sync_folder.ensures k)
