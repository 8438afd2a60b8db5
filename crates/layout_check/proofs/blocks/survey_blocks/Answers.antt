-- The walk along the chain that the slot names, or a slot that names no place.
use Rattle.std.proofs.Common.{arith}
use Rattle.disk_layout.proofs.lemmas.chains.Names.{named-match}
use Rattle.layout_check.proofs.lemmas.finding.Walked.{blocks-found, chain-tells, no_first}
use Rattle.layout_check.proofs.blocks.survey_blocks.Goals as goal

pub returns-in_default-clause-err : goal.returns-in_default-clause-err
returns-in_default-clause-err g c = no_first g.D.Sectors.history c.args.disk.now c.args.slot.now.sector c.args.slot.now
    c.requires.closed (named-match c.args.slot.now.bytes _ 3 _ c.new.ensures c.in_default.ensures) c.requires.names

pub returns-clause-blocks : goal.returns-clause-blocks
returns-clause-blocks g c = blocks-found _ c.args.slot.now c.in-Some.first _ _ (named-match c.args.slot.now.bytes _ 3 _
    c.new.ensures c.in-Some.ensures) c.walk_chain.ensures.chain

pub returns-clause-err : goal.returns-clause-err
returns-clause-err g c = chain-tells g.D.Sectors.history c.args.disk.now c.walk_chain.new.disk c.args.slot.now.sector
    c.in-Some.first c.args.slot.now _ _ (omega (arith, c.walk_chain.ensures.few)) c.requires.closed
    (named-match c.args.slot.now.bytes _ 3 _ c.new.ensures c.in-Some.ensures) c.walk_chain.ensures.fault
    c.walk_chain.ensures.failures c.walk_chain.ensures.reads
