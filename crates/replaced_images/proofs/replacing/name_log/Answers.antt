-- Each exit by the calls before it.
use Rattle.std.proofs.Common.{Some, refl}
use Rattle.one_host.specs.Calls.{turned}
use Rattle.one_host.specs.declared.parts.Entry.TheVariants.{Leads, Nothing}
use Rattle.one_host.proofs.Moments.{joined}
use Rattle.one_host.specs.History.{Until}
use Rattle.replaced_images.specs.Replaced.{Gives, whole}
use Rattle.replaced_images.proofs.Called.{folder_after, folder_moments, named_is, old_is, rename_after, rename_moments}
use Rattle.replaced_images.proofs.replacing.name_log.Goals as goal

pub returns-in_err-rename-clause-any_moment : goal.returns-in_err-rename-clause-any_moment
returns-in_err-rename-clause-any_moment g c k n logs i l log old new gives same at =
    let S = g.H.Host.history in
    let path = c.args.names.now.image.now in
    let from = c.requires.making in
    let to = c.requires.log in
    let h0 = c.args.host.now in
    let h1 = c.rename.new.self in
    let m1 = rename_moments S n path i logs l log old new gives h0 h1 same _ _ from to _ at (c.rename.ensures k) in
    m1

pub returns-in_err-sync_folder-clause-any_moment : goal.returns-in_err-sync_folder-clause-any_moment
returns-in_err-sync_folder-clause-any_moment g c k n logs i l log old new gives same at =
    let S = g.H.Host.history in
    let path = c.args.names.now.image.now in
    let from = c.requires.making in
    let to = c.requires.log in
    let h0 = c.args.host.now in
    let h1 = c.rename.new.self in
    let h2 = c.sync_folder.new.self in
    let m1 = rename_moments S n path i logs l log old new gives h0 h1 same _ _ from to _ at (c.rename.ensures k) in
    let at1 = rename_after S n path i logs l log old new gives h0 h1 _ _ from to _ at (c.in_ok-rename.ensures k) in
    let m2 = folder_moments S n path i logs l log old new gives h1 h2 (whole old) (turned (whole Nothing) (Leads l)) (named_is S n path i logs l log old new gives h1 h2 same) (old_is S n path i logs l log old new gives h1 h2 same) _ at1 (c.sync_folder.ensures k) in
    joined S h0 h1 h2 (Until n (Gives logs path old new)) m1 m2

pub returns-clause-any_moment : goal.returns-clause-any_moment
returns-clause-any_moment g c k n logs i l log old new gives same at =
    let S = g.H.Host.history in
    let path = c.args.names.now.image.now in
    let from = c.requires.making in
    let to = c.requires.log in
    let h0 = c.args.host.now in
    let h1 = c.rename.new.self in
    let h2 = c.sync_folder.new.self in
    let m1 = rename_moments S n path i logs l log old new gives h0 h1 same _ _ from to _ at (c.rename.ensures k) in
    let at1 = rename_after S n path i logs l log old new gives h0 h1 _ _ from to _ at (c.in_ok-rename.ensures k) in
    let m2 = folder_moments S n path i logs l log old new gives h1 h2 (whole old) (turned (whole Nothing) (Leads l)) (named_is S n path i logs l log old new gives h1 h2 same) (old_is S n path i logs l log old new gives h1 h2 same) _ at1 (c.sync_folder.ensures k) in
    joined S h0 h1 h2 (Until n (Gives logs path old new)) m1 m2

pub returns-clause-ok : goal.returns-clause-ok
returns-clause-ok g c k n i l log old at =
    let S = g.H.Host.history in
    let path = c.args.names.now.image.now in
    let from = c.requires.making in
    let to = c.requires.log in
    let h0 = c.args.host.now in
    let h1 = c.rename.new.self in
    let h2 = c.sync_folder.new.self in
    let at1 = rename_after S n path i (λ _ _. Some old) l log old old (λ _ _. refl) h0 h1 _ _ from to _ at (c.in_ok-rename.ensures k) in
    folder_after S n path i (λ _ _. Some old) l log old old (λ _ _. refl) h1 h2 (whole old) (turned (whole Nothing) (Leads l)) _ at1 (c.in_ok-sync_folder.ensures k)
