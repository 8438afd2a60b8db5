use Rattle.std.proofs.Common.{rules}
use Rattle.benchmarks.proofs.Asked.{then_asked, unasked}
use Rattle.benchmarks.proofs.requests.ask_by_turns.Goals as goal

pub loop-round-init : goal.loop-round-init
loop-round-init g c = (unasked g.D.Sectors.history c.args.session.now c.requires.shop, c.requires.tills)

pub ask-requires : goal.ask-requires
ask-requires g c = record { shop = c.loop-round.invariant.0.shop }

pub loop-round-preserved : goal.loop-round-preserved
loop-round-preserved g c = (
  then_asked g.D.Sectors.history c.args.session.now c.loop-round.session c.ask.new.session c.loop-round.invariant.0
      c.ask.ensures.stays,
  search (rules, c.loop-round.invariant.1),
)
