-- The fault holds too, or doesn't.
use Rattle.std.proofs.lemmas.Bool.{false≢true}
use Rattle.std.proofs.Common.{sym, ◌∙◌}
use Rattle.disk_reports.proofs.Followed.{pushed}
use Rattle.disk_reports.proofs.Gathered.{one-kept, one-left}
use Rattle.disk_reports.proofs.gathering.add_if.Goals as goal

pub returns-then-not-holds_too-clause-ok : goal.returns-then-not-holds_too-clause-ok
returns-then-not-holds_too-clause-ok c =
    one-left c.args.links.now c.args.first c.args.fault c.args.found.now.items
    (λ h. false≢true (sym c.if-not-holds_too.true ∙ c.holds_too.ensures.1 h))

pub returns-clause-ok : goal.returns-clause-ok
returns-clause-ok c =
    one-kept c.args.links.now c.args.first c.args.fault c.args.found.now.items _
    (c.holds_too.ensures.0 c.if-not-holds_too.false)
    (pushed _ _ _ _ _ c.if-is_err.false c.is_err.ensures.negation c.push.ensures.items)
