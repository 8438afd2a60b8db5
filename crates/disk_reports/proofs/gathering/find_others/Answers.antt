-- A sector more.
use Rattle.std.proofs.Common.{[]}
use Rattle.disk_reports.proofs.Gathered.{all-places, gathered-none, next-place}
use Rattle.disk_reports.proofs.gathering.find_others.Goals as goal

pub loop-index-init : goal.loop-index-init
loop-index-init c = gathered-none c.args.links.now c.args.first _ [] c.new-found.ensures.items

pub loop-index-preserved : goal.loop-index-preserved
loop-index-preserved c =
    next-place c.args.links.now c.args.first c.loop-index.index c.nth.result [] _ _ c.nth.ensures
    c.loop-index.invariant (rw c.faults_of.ensures at c.in_ok-add_those.ensures.ok)

pub returns-clause-ok : goal.returns-clause-ok
returns-clause-ok c =
    all-places c.args.links.now c.args.first c.loop-index.index _ c.loop-index-test.false c.loop-index.invariant
