-- One byte, written and synced.
use Rattle.kept_logs.proofs.Marked.{begun, mark_held, marked}
use Rattle.kept_logs.proofs.logs.KeptLog.mark.Goals as goal

pub returns-in_err-append-clause-any_moment : goal.returns-in_err-append-clause-any_moment
returns-in_err-append-clause-any_moment g c known n start now since =
    let S = g.H.Host.history in
    mark_held S c.args.host.now c.append.new.host n c.args.self start now since
    (c.append.ensures.any_moment known n (begun S c.args.host.now c.append.new.host n c.args.self start now since))

pub returns-clause-any_moment : goal.returns-clause-any_moment
returns-clause-any_moment g c known n start now since =
    let S = g.H.Host.history in
    mark_held S c.args.host.now c.append.new.host n c.args.self start now since
    (c.append.ensures.any_moment known n (begun S c.args.host.now c.append.new.host n c.args.self start now since))

pub returns-clause-ok : goal.returns-clause-ok
returns-clause-ok g c known n start now since =
    let S = g.H.Host.history in
    marked S c.args.host.now c.append.new.host n c.args.self start now since
    (c.in_ok-append.ensures.ok known n (begun S c.args.host.now c.append.new.host n c.args.self start now since))
