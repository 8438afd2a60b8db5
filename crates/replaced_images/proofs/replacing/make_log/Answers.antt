-- Each exit by the calls before it.
use Rattle.std.proofs.Common.{[], arith, subst}
use Rattle.one_host.specs.History.{Since}
use Rattle.one_host.specs.Calls.{brought, put, turned}
use Rattle.one_host.specs.declared.parts.Entry.TheVariants.{Nothing}
use Rattle.one_host.proofs.Moments.{joined}
use Rattle.one_host.specs.History.{Until}
use Rattle.replaced_images.specs.Replaced.{Gives, whole}
use Rattle.replaced_images.specs.Stages.{Makes}
use Rattle.replaced_images.proofs.Called.{make_after, make_moments, settle_after, settle_moments, sync_after, sync_moments, write_after, write_moments}
use Rattle.replaced_images.proofs.Staged.{put_over}
use Rattle.replaced_images.proofs.replacing.make_log.Goals as goal

pub returns-in_err-file-clause-any_moment : goal.returns-in_err-file-clause-any_moment
returns-in_err-file-clause-any_moment g c k n logs i old new at =
    let S = g.H.Host.history in
    let path = c.args.names.now.image.now in
    let log = c.args.log.now in
    let named = c.requires.names in
    let h0 = c.args.host.now in
    let h1 = c.make.new.self in
    let m1 = make_moments S n path i logs old new h0 h1 _ named _ at (c.make.ensures k) in
    m1

pub returns-in_err-write_at-clause-any_moment : goal.returns-in_err-write_at-clause-any_moment
returns-in_err-write_at-clause-any_moment g c k n logs i old new at =
    let S = g.H.Host.history in
    let path = c.args.names.now.image.now in
    let log = c.args.log.now in
    let named = c.requires.names in
    let h0 = c.args.host.now in
    let h1 = c.make.new.self in
    let h2 = c.write_at.new.self in
    let m1 = make_moments S n path i logs old new h0 h1 _ named _ at (c.make.ensures k) in
    let at1 = make_after S n path i old h0 h1 _ named _ at (c.in_ok-file.ensures k) in
    let l = c.in_ok-file.file.number in
    let m2 = write_moments S n path i old l (whole []) h1 h2 at1 logs new log _ (c.write_at.ensures k) in
    joined S h0 h1 h2 (Until n (Gives logs path old new)) m1 m2

pub returns-in_err-sync-clause-any_moment : goal.returns-in_err-sync-clause-any_moment
returns-in_err-sync-clause-any_moment g c k n logs i old new at =
    let S = g.H.Host.history in
    let path = c.args.names.now.image.now in
    let log = c.args.log.now in
    let named = c.requires.names in
    let h0 = c.args.host.now in
    let h1 = c.make.new.self in
    let h2 = c.write_at.new.self in
    let h3 = c.sync.new.self in
    let m1 = make_moments S n path i logs old new h0 h1 _ named _ at (c.make.ensures k) in
    let at1 = make_after S n path i old h0 h1 _ named _ at (c.in_ok-file.ensures k) in
    let l = c.in_ok-file.file.number in
    let m2 = write_moments S n path i old l (whole []) h1 h2 at1 logs new log _ (c.write_at.ensures k) in
    let at2 = write_after S n path i old l (whole []) h1 h2 at1 log _ (c.in_ok-write_at.ensures k) in
    let m3 = sync_moments S n path i old l (turned (whole []) (put [] 0 log)) h2 h3 at2 logs new _ (c.sync.ensures k) in
    joined S h0 h2 h3 (Until n (Gives logs path old new)) (joined S h0 h1 h2 (Until n (Gives logs path old new)) m1 m2) m3

pub returns-in_err-sync_folder-clause-any_moment : goal.returns-in_err-sync_folder-clause-any_moment
returns-in_err-sync_folder-clause-any_moment g c k n logs i old new at =
    let S = g.H.Host.history in
    let path = c.args.names.now.image.now in
    let log = c.args.log.now in
    let named = c.requires.names in
    let h0 = c.args.host.now in
    let h1 = c.make.new.self in
    let h2 = c.write_at.new.self in
    let h3 = c.sync.new.self in
    let h4 = c.sync_folder.new.self in
    let m1 = make_moments S n path i logs old new h0 h1 _ named _ at (c.make.ensures k) in
    let at1 = make_after S n path i old h0 h1 _ named _ at (c.in_ok-file.ensures k) in
    let l = c.in_ok-file.file.number in
    let m2 = write_moments S n path i old l (whole []) h1 h2 at1 logs new log _ (c.write_at.ensures k) in
    let at2 = write_after S n path i old l (whole []) h1 h2 at1 log _ (c.in_ok-write_at.ensures k) in
    let m3 = sync_moments S n path i old l (turned (whole []) (put [] 0 log)) h2 h3 at2 logs new _ (c.sync.ensures k) in
    let at3 = sync_after S n path i old l (turned (whole []) (put [] 0 log)) h2 h3 at2 _ (c.in_ok-sync.ensures k) in
    let m4 = settle_moments S n path i old l (brought (turned (whole []) (put [] 0 log))) h3 h4 at3 logs new _ (c.sync_folder.ensures k) in
    joined S h0 h3 h4 (Until n (Gives logs path old new)) (joined S h0 h2 h3 (Until n (Gives logs path old new)) (joined S h0 h1 h2 (Until n (Gives logs path old new)) m1 m2) m3) m4

pub returns-clause-any_moment : goal.returns-clause-any_moment
returns-clause-any_moment g c k n logs i old new at =
    let S = g.H.Host.history in
    let path = c.args.names.now.image.now in
    let log = c.args.log.now in
    let named = c.requires.names in
    let h0 = c.args.host.now in
    let h1 = c.make.new.self in
    let h2 = c.write_at.new.self in
    let h3 = c.sync.new.self in
    let h4 = c.sync_folder.new.self in
    let m1 = make_moments S n path i logs old new h0 h1 _ named _ at (c.make.ensures k) in
    let at1 = make_after S n path i old h0 h1 _ named _ at (c.in_ok-file.ensures k) in
    let l = c.in_ok-file.file.number in
    let m2 = write_moments S n path i old l (whole []) h1 h2 at1 logs new log _ (c.write_at.ensures k) in
    let at2 = write_after S n path i old l (whole []) h1 h2 at1 log _ (c.in_ok-write_at.ensures k) in
    let m3 = sync_moments S n path i old l (turned (whole []) (put [] 0 log)) h2 h3 at2 logs new _ (c.sync.ensures k) in
    let at3 = sync_after S n path i old l (turned (whole []) (put [] 0 log)) h2 h3 at2 _ (c.in_ok-sync.ensures k) in
    let m4 = settle_moments S n path i old l (brought (turned (whole []) (put [] 0 log))) h3 h4 at3 logs new _ (c.sync_folder.ensures k) in
    joined S h0 h3 h4 (Until n (Gives logs path old new)) (joined S h0 h2 h3 (Until n (Gives logs path old new)) (joined S h0 h1 h2 (Until n (Gives logs path old new)) m1 m2) m3) m4

pub returns-clause-ok : goal.returns-clause-ok
returns-clause-ok g c k n i old at =
    let S = g.H.Host.history in
    let path = c.args.names.now.image.now in
    let log = c.args.log.now in
    let named = c.requires.names in
    let h0 = c.args.host.now in
    let h1 = c.make.new.self in
    let h2 = c.write_at.new.self in
    let h3 = c.sync.new.self in
    let h4 = c.sync_folder.new.self in
    let at1 = make_after S n path i old h0 h1 _ named _ at (c.in_ok-file.ensures k) in
    let l = c.in_ok-file.file.number in
    let at2 = write_after S n path i old l (whole []) h1 h2 at1 log _ (c.in_ok-write_at.ensures k) in
    let at3 = sync_after S n path i old l (turned (whole []) (put [] 0 log)) h2 h3 at2 _ (c.in_ok-sync.ensures k) in
    let at4 = settle_after S n path i old l (brought (turned (whole []) (put [] 0 log))) h3 h4 at3 _ (c.in_ok-sync_folder.ensures k) in
    subst (λ b. Since n (Makes path i l (whole old) (whole b) (whole Nothing)) (S.world h4)) (put_over [] log (omega arith)) at4
