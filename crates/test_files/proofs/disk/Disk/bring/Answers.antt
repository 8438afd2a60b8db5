-- What was there is kept, and the new bytes stand in its place.
use Rattle.std.proofs.Common.{◌≡◌, rules}
use Rattle.test_files.proofs.Brought.{brought, had_been_last}
use Rattle.test_files.proofs.disk.Disk.bring.Goals as goal

pub returns-clause-stays : goal.returns-clause-stays
returns-clause-stays c =
    let now : c.in_ok-next.next.items ≡ c.args.bytes.now = search rules in
    let was : c.in_ok-before.before.items ≡ c.args.self.now.bytes.items = search rules in
    brought c.args.self.now _ c.in_ok-before.before c.args.bytes.now was c.in_ok-push.ensures.items now

pub returns-clause-before : goal.returns-clause-before
returns-clause-before c =
    let was : c.in_ok-before.before.items ≡ c.args.self.now.bytes.items = search rules in
    rw c.in_ok-push.ensures.items
    (had_been_last c.args.self.now.past.items c.in_ok-before.before c.args.self.now.bytes.items was)
