-- The write, and then the sync.
use Rattle.one_host.specs.History.{Until}
use Rattle.one_host.proofs.Moments.{joined}
use Rattle.kept_logs.specs.Files.{Mixes}
use Rattle.kept_logs.proofs.Calls.{begins, sync_after, sync_moments, write_after, write_moments}
use Rattle.kept_logs.proofs.appending.append.Goals as goal

pub returns-in_err-write_at-clause-any_moment : goal.returns-in_err-write_at-clause-any_moment
returns-in_err-write_at-clause-any_moment g c known k since =
    let S = g.H.Host.history in
    let v = S.world c.args.host.now in
    write_moments S c.args.host.now c.write_at.new.self k v c.args.file.number c.args.at c.args.bytes.now
    (begins k v c.args.file.number c.args.at c.args.bytes.now since) _ (c.write_at.ensures known)

pub returns-in_err-sync-clause-any_moment : goal.returns-in_err-sync-clause-any_moment
returns-in_err-sync-clause-any_moment g c known k since =
    let S = g.H.Host.history in
    let v = S.world c.args.host.now in
    let n = c.args.file.number in
    let at = c.args.at in
    let bytes = c.args.bytes.now in
    let h1 = c.write_at.new.self in
    joined S c.args.host.now h1 c.sync.new.self (Until k (Mixes v n at bytes))
    (write_moments S c.args.host.now h1 k v n at bytes (begins k v n at bytes since) _ (c.write_at.ensures known))
    (sync_moments S h1 c.sync.new.self k v n at bytes
    (write_after S c.args.host.now h1 k v n at bytes (begins k v n at bytes since) _ (c.in_ok-write_at.ensures known)) _ (c.sync.ensures known))

pub returns-clause-any_moment : goal.returns-clause-any_moment
returns-clause-any_moment g c known k since =
    let S = g.H.Host.history in
    let v = S.world c.args.host.now in
    let n = c.args.file.number in
    let at = c.args.at in
    let bytes = c.args.bytes.now in
    let h1 = c.write_at.new.self in
    joined S c.args.host.now h1 c.sync.new.self (Until k (Mixes v n at bytes))
    (write_moments S c.args.host.now h1 k v n at bytes (begins k v n at bytes since) _ (c.write_at.ensures known))
    (sync_moments S h1 c.sync.new.self k v n at bytes
    (write_after S c.args.host.now h1 k v n at bytes (begins k v n at bytes since) _ (c.in_ok-write_at.ensures known)) _ (c.sync.ensures known))

pub returns-clause-ok : goal.returns-clause-ok
returns-clause-ok g c known k since =
    let S = g.H.Host.history in
    let v = S.world c.args.host.now in
    let n = c.args.file.number in
    let at = c.args.at in
    let bytes = c.args.bytes.now in
    let h1 = c.write_at.new.self in
    sync_after S h1 c.sync.new.self k v n at bytes
    (write_after S c.args.host.now h1 k v n at bytes (begins k v n at bytes since) _ (c.in_ok-write_at.ensures known)) _ (c.in_ok-sync.ensures known)
